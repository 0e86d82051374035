pub mod Tickets
