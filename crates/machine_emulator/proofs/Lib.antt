pub mod Allowing
pub mod Judging
pub mod Keeping
pub mod OwnLocations
pub mod StepLaws
pub mod Stepping
pub mod Watching
