pub mod Pieces
pub mod Scripts
