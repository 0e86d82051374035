pub mod RunEnds
