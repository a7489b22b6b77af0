mod Beginning
mod Drawn
mod Flags
mod Followed
mod Leading
mod LineTexts
pub mod NoLine
pub mod Seen
mod TraceBegun
mod Traced
