pub mod Answering
pub mod Deciding
pub mod Exploring
pub mod Stating
pub mod Unlisted
