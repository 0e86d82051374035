pub mod Going
pub mod Flowing
pub mod Leaving
pub mod Connecting
pub mod Requesting
pub mod Ending
pub mod Operating
