mod Adding
mod Links
mod Listing
