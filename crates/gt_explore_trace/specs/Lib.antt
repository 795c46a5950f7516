pub mod Diagram
pub mod Facts
pub mod Lines
pub mod Moves
pub mod Places
pub mod Steps
