pub mod Distinct
pub mod Keys
pub mod PathLists
pub mod RecordEntries
pub mod Removal
mod ShareRows
pub mod Swapped
