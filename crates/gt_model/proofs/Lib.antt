pub mod Decoding
pub mod Observers
