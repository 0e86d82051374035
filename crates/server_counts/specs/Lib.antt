pub mod Places
pub mod Counts
pub mod PeerStates
pub mod Times
pub mod Streams
pub mod Waits
pub mod Marks
pub mod Residuals
