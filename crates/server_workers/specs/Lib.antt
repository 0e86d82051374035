pub mod Decided
pub mod Faults
pub mod Rings
pub mod Turns
