pub mod Cutting
mod Spaces
mod Taking
pub mod LineAnswers
