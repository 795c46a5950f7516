pub mod Beginning
pub mod Faults
