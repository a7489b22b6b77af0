pub mod Basis
pub mod Says
pub mod Shares
