pub mod Heads
pub mod Marked
pub mod Numbered
pub mod Ones
pub mod Rearranged
pub mod Tellings
pub mod Unsaids
pub mod Ways
