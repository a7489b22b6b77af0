pub mod Allowed
pub mod EdgeOf
pub mod Edges
pub mod Entries
pub mod Listed
pub mod Marks
pub mod Names
pub mod Short
