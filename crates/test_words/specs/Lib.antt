pub mod Pinned
pub mod Rows
