pub mod PathSteps
pub mod Swapping
