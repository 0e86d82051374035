pub mod LastPeer
pub mod Texts
pub mod WordsAgain
pub mod ItemsAgain
pub mod BasesAgain
