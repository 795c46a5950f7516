pub mod Added
pub mod Explored
