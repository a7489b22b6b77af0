pub mod Bytes
pub mod Handed
