pub mod Paths
pub mod Cheaper
pub mod Tightest
pub mod Moves
