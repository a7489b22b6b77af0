pub mod Findings
pub mod FindingsOf
pub mod First
pub mod Insides
pub mod KnownInside
pub mod Those
