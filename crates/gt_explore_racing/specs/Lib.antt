pub mod Calls
pub mod Exploring
pub mod Outputs
pub mod Showing
