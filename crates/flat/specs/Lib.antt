pub mod Due
pub mod Places
pub mod Taken
pub mod Finished
