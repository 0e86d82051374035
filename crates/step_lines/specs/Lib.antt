pub mod Requests
pub mod Wanted
pub mod Replies
pub mod Events
pub mod Lines
pub mod ReplyReading
pub mod EventReading
pub mod Normal
