pub mod Steps
pub mod Texts
pub mod Heads
pub mod Bases
