pub mod Copies
pub mod Covering
pub mod Frames
pub mod Places
pub mod Receipts
pub mod Sets
pub mod Writers
