pub mod Asked
pub mod Explored
pub mod Written
