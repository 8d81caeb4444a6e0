pub mod Allowed
pub mod Rows
pub mod Outcomes
