pub mod Fees
pub mod Certificates
pub mod Rows
pub mod Paths
