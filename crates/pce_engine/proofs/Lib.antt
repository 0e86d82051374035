mod AllowedLines
mod Closing
mod Joins
pub mod Laws
mod Placing
pub mod Runs
mod Searching
mod Turning
mod Unbroken
