pub mod Granting
pub mod Members
pub mod Texts
pub mod Why
