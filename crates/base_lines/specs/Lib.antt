pub mod Words
pub mod WordsIn
pub mod Items
pub mod Lines
pub mod Normal
