mod AskedRows
mod ReportRows
pub mod Limits
pub mod Picks
