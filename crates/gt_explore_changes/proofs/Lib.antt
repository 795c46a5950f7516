pub mod Doers
pub mod Waiting
pub mod Joined
pub mod Spaces
pub mod Orders
