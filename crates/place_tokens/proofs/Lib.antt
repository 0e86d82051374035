pub mod Moves
pub mod Rising
