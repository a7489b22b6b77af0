pub mod BoundOfFiles
pub mod Checked
pub mod Commands
pub mod DoesCommand
pub mod SaysCheck
pub mod Words
