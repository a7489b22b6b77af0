mod Short
pub mod Spending
mod TableRows
pub mod Tallying
mod WaitRowLines
pub mod WaitRows
pub mod WaitsFound
