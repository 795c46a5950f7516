pub mod Words
pub mod Places
pub mod Strings
pub mod Lines
