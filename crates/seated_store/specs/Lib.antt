pub mod Seating
pub mod SeatingLaws
