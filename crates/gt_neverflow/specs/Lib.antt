pub mod Finding
pub mod Flowing
pub mod Printing
