pub mod Words
pub mod Queries
pub mod Hosts
pub mod Asked
pub mod Answers
pub mod Turns
