pub mod Framing
pub mod Objects
pub mod Reports
pub mod Requests
