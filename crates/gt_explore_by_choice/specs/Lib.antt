pub mod Answering
pub mod Exploring
pub mod Gathering
pub mod Possible
