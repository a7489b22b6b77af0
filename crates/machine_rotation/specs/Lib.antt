pub mod Available
pub mod Moment
pub mod Recurs
pub mod Span
pub mod Waits
