mod Counted
pub mod Summed
