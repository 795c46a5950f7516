pub mod Exploring
pub mod Outputs
