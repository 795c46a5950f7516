pub mod Asked
pub mod Meaning
pub mod Growing
pub mod Lined
pub mod Reported
pub mod Meant
pub mod Pairing
