pub mod Based
pub mod Handed
pub mod Heads
pub mod Led
pub mod Written
pub mod Seen
