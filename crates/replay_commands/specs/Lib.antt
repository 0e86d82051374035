pub mod Until
pub mod Ends
pub mod Shown
pub mod Bases
pub mod Runs
