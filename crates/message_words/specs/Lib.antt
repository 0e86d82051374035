pub mod Fields
pub mod Objects
pub mod Messages
pub mod Faults
pub mod Looks
pub mod Answers
pub mod Streams
