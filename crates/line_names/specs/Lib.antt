pub mod Plain
pub mod Names
