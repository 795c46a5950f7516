pub mod Apart
pub mod Counters
