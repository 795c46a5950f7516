pub mod Claims
pub mod Faults
pub mod Reading
pub mod Words
