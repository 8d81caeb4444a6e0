pub mod Hits
pub mod Steps
pub mod Chosen
pub mod Files
