pub mod Live
pub mod Showing
pub mod Script
pub mod Dumps
pub mod Faults
pub mod Prelude
pub mod Look
