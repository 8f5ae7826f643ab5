pub mod Meanings
pub mod Laws
pub mod Calls
pub mod Members
pub mod Of
