pub mod Bytes
pub mod Laws
pub mod Rule
pub mod Recording
pub mod Seats
pub mod Words
pub mod Accesses
pub mod Locking
