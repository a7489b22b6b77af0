pub mod Fed
pub mod Feed
pub mod FirstState
pub mod Machine
pub mod Monitor
pub mod Registers
pub mod Setup
