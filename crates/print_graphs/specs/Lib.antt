pub mod Graph
pub mod GraphOf
pub mod GraphText
pub mod Outline
