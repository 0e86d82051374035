pub mod Heads
pub mod Moments
pub mod Order
pub mod Files
