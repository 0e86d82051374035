pub mod Statuses
pub mod Texts
pub mod Tells
pub mod Watches
