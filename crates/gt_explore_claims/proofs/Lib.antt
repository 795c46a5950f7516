pub mod Explored
pub mod Numbered
pub mod Unshown
