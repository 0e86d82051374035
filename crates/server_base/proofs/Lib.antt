pub mod Downs
mod Standings
mod Named
