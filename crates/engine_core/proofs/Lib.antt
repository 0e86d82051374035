pub mod Leading
pub mod Carrying
pub mod Sending
pub mod Cases
pub mod Turning
pub mod Performing
pub mod Handling
