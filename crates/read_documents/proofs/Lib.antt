pub mod Asking
mod Cuts
mod Giving
mod Joining
mod Refusing
