pub mod Listing
pub mod Pairs
pub mod Format
pub mod Steps
pub mod Lines
pub mod FlowPairs
pub mod Asking
