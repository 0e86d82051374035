pub mod WellFormed
pub mod Plain
