pub mod Marked
pub mod Slower
pub mod TellsOf
pub mod WalkTime
