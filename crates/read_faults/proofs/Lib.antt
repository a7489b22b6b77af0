pub mod Begin
pub mod BeginInputs
mod BothLoad
pub mod ByLine
mod Lines
pub mod OnePlaced
mod Passed
mod PlacedInputs
mod ReadSoFar
mod Told
