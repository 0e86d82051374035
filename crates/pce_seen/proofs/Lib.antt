mod Pages
mod Once
mod Spans
mod Covered
