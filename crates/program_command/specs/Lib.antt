pub mod Line
pub mod Refusal
pub mod Entry
