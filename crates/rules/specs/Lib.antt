pub mod Passes
pub mod Lifted
pub mod Mixed
pub mod Samples
pub mod Worked
