pub mod Reports
pub mod Tellings
