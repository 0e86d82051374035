mod Rooms
mod Showing
