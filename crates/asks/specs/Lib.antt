pub mod Words
pub mod Limits
pub mod Lines
pub mod Rates
pub mod Places
