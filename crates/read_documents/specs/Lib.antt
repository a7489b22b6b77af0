pub mod Asked
pub mod Documents
pub mod Files
pub mod Joined
pub mod PartsOf
pub mod TextsIn
pub mod TextsOf
