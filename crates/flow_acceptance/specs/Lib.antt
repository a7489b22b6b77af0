pub mod Acceptance
pub mod OrderedFlow
pub mod Altering
pub mod Fixed
pub mod Free
pub mod Size
