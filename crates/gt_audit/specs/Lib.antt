pub mod Compact
pub mod Lines
pub mod Log
pub mod Pieces
pub mod Trails
