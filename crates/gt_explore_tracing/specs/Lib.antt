pub mod Answering
pub mod MoveBlocks
pub mod Tracing
pub mod Writing
