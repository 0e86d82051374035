pub mod Cuts
pub mod Ends
pub mod Links
pub mod Lists
pub mod Arcs
pub mod Moved
pub mod Rows
pub mod Pages
