mod Exchanges
pub mod OwnOpen
mod Pieces
mod Outputs
pub mod Kept
pub mod Needed
pub mod Resting
pub mod Cuts
pub mod Calling
pub mod Endings
