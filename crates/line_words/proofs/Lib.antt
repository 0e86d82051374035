pub mod Again
pub mod FirstWords
