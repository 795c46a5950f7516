pub mod Entries
pub mod Laws
pub mod Printing
pub mod Streams
pub mod Texts
