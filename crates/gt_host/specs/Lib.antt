pub mod Faults
pub mod OpenCalls
pub mod Recording
pub mod Ticking
