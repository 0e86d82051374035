pub mod Reports
pub mod Grants
pub mod Effects
pub mod Faults
pub mod Returns
pub mod Refusals
