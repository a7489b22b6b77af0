pub mod Lists
pub mod Members
mod Positions
pub mod Searches
