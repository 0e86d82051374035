pub mod Receipts
pub mod Audits
pub mod Faults
pub mod Lending
pub mod Past
pub mod Seeing
pub mod Bytes
