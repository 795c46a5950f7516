pub mod Apart
pub mod Separate
