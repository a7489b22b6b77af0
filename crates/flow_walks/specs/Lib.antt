pub mod Pieces
pub mod Visited
pub mod Worst
