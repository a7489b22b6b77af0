pub mod Alone
pub mod Chained
pub mod Ends
pub mod Going
mod Opening
pub mod Passing
pub mod Returning
pub mod SinceLaws
pub mod Within
