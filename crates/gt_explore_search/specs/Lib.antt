pub mod Exploring
pub mod Lists
pub mod Numbers
pub mod Parts
pub mod Tails
pub mod Ways
