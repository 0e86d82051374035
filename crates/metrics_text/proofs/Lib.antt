mod Digits
mod Labels
mod Lines
mod Named
mod Reading
