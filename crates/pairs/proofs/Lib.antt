pub mod Placed
pub mod Last
pub mod Gather
pub mod Fresh
pub mod Same
pub mod Keep
