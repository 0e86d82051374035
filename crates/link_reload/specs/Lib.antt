pub mod Reloads
