pub mod Replays
pub mod Bases
pub mod Kept
