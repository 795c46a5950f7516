pub mod Exploring
pub mod Judging
pub mod Orders
pub mod Pairs
pub mod Read
pub mod Replacing
pub mod Showing
pub mod Terms
