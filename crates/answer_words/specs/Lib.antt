pub mod Refusals
pub mod Wanted
pub mod Sentences
