pub mod Ordered
pub mod Refusals
pub mod Sets
pub mod Areas
