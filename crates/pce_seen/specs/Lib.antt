pub mod Lsps
pub mod Grants
pub mod Gaps
pub mod Tunnels
pub mod Over
