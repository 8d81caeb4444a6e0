pub mod Policies
pub mod Plain
pub mod Never
pub mod Given
