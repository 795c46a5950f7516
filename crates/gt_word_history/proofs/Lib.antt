pub mod Order
pub mod Moments
pub mod Opens
pub mod Joining
