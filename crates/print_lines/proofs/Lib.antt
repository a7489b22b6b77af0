pub mod Lines
pub mod NoLine
pub mod Passing
pub mod Turning
