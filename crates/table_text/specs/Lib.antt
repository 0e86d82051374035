pub mod Adding
pub mod Amounts
pub mod Durations
pub mod Names
pub mod Numbers
