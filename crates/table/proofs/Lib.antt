pub mod Bits
pub mod Lanes
pub mod Laws
pub mod Pass
pub mod Subsets
pub mod Filled
