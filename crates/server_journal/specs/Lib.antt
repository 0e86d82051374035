pub mod Writes
pub mod Bases
