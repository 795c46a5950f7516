pub mod Blocks
pub mod Fitting
pub mod Reasons
