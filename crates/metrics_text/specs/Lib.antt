pub mod Words
pub mod Exposition
pub mod Samples
pub mod Table
pub mod Rows
pub mod Reading
