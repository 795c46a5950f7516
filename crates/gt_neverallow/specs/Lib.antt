pub mod Breaking
pub mod Naming
pub mod Printing
pub mod Reading
