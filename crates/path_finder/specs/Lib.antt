pub mod Passing
pub mod Walks
pub mod Sides
pub mod Limits
pub mod QuickAnswers
pub mod Answers
