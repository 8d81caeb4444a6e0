pub mod Root
pub mod Row
pub mod Come
pub mod Reading
pub mod Noting
pub mod Worked
