pub mod Copies
pub mod Likeness
pub mod Pages
pub mod Prelude
pub mod Rows
pub mod Shows
pub mod Tables
pub mod Writing
