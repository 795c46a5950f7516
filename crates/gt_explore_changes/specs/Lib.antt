pub mod Blocks
pub mod Fewest
pub mod Parts
pub mod Ways
pub mod Waiting
