pub mod Lines
pub mod Notes
pub mod Following
pub mod Beginning
pub mod Onward
