pub mod Adding
pub mod Writing
