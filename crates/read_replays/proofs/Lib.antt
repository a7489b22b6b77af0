mod Common
pub mod Defaults
pub mod Firsts
pub mod Prefixes
pub mod Halves
pub mod Marks
pub mod OneLine
pub mod Own
pub mod Progress
pub mod Refusals
pub mod Repeated
pub mod Sounds
pub mod Steps
pub mod Takes
