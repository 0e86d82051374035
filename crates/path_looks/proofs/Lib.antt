mod Closing
mod Firsts
mod Rows
mod Trying
