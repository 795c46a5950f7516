pub mod Holding
pub mod Notes
pub mod Ordered
pub mod Places
pub mod Spaces
pub mod States
