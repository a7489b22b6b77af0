pub mod InputsOfLines
pub mod Inputs
pub mod InputsText
pub mod Said
