pub mod Breaking
pub mod Checking
pub mod Explaining
pub mod Judging
pub mod Scripts
pub mod Reporting
