pub mod Explored
pub mod Shown
