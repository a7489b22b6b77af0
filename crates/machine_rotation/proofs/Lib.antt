pub mod Clockworks
pub mod Firsts
pub mod Waited
