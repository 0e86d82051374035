pub mod Members
pub mod Shares
pub mod States
pub mod Steps
pub mod Rows
pub mod Boards
