pub mod LimitsAgain
pub mod WantedAgain
pub mod LinksAgain
pub mod EventsAgain
pub mod RepliesAgain
pub mod Equals
pub mod StepsAgain
