pub mod Points
pub mod Legal
pub mod Expecting
