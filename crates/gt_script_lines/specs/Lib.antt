pub mod Body
pub mod CallNames
pub mod Calls
pub mod Fields
pub mod Hexadecimal
pub mod Lines
pub mod Numbers
pub mod Words
