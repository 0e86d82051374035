pub mod Names
pub mod Offers
pub mod Routes
pub mod Verdicts
pub mod Sound
pub mod Searched
