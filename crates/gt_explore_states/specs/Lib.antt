pub mod Moments
pub mod Moves
pub mod Spaces
pub mod Tables
