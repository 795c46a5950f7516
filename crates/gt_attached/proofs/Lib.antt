pub mod Beside
pub mod ReadBack
pub mod NoMapping
mod Comparing
mod Searching
mod Undoing
