pub mod Joining
pub mod Judged
pub mod Parts
pub mod Pieces
pub mod ReadAsWritten
pub mod Refusing
pub mod Values
pub mod Written
