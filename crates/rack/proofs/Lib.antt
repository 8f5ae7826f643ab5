pub mod Refusing
pub mod Clear
pub mod Listing
