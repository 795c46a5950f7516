pub mod Asking
pub mod Faults
pub mod Joining
pub mod Prelude
pub mod Printing
pub mod Runs
pub mod Serving
pub mod Logging
