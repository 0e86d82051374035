pub mod Briefs
pub mod Histories
pub mod Faults
