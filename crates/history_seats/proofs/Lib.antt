mod Places
mod Placed
mod Whole
mod Folding
pub mod Pasts
pub mod AllSteps
pub mod StepBytes
