pub mod Acceptances
pub mod Alterations
pub mod Flags
pub mod FreeRows
pub mod Heights
pub mod Plain
pub mod Products
pub mod Translations
