pub mod Hits
pub mod Found
