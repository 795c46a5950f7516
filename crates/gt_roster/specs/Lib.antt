pub mod Places
pub mod Starting
pub mod Frameless
