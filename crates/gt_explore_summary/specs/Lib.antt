pub mod Columns
pub mod Counts
pub mod Lines
pub mod Objects
pub mod Shown
pub mod Summing
pub mod Written
