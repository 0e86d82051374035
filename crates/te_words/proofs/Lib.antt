pub mod Depths
pub mod Next
