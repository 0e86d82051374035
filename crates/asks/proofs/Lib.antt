mod Numbers
mod Hex
pub mod Parts
pub mod Written
