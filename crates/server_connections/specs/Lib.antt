pub mod Sayings
pub mod Asked
pub mod Sent
