pub mod Nodes
pub mod Soundness
pub mod Found
mod Rows
