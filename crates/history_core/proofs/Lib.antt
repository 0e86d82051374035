pub mod Sounding
pub mod Replaying
pub mod Rolling
pub mod Orders
