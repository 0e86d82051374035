mod Depths
mod Listing
mod Movers
mod Names
mod Objects
mod TunnelDepths
