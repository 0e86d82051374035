pub mod Steps
pub mod Moves
pub mod Grants
pub mod Looks
