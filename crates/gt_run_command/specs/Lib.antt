pub mod RunNames
pub mod Runs
