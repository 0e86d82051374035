pub mod Words
pub mod Joined
pub mod First
pub mod Written
