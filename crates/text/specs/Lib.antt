pub mod Words
pub mod Line
pub mod ReadText
pub mod Faults
pub mod Nodes
pub mod Converting
pub mod Written
pub mod Held
