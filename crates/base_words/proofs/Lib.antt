pub mod Numerals
pub mod OpLaws
pub mod Same
pub mod Words
