pub mod Accessing
pub mod Beginning
pub mod Orders
pub mod Remade
pub mod Saying
pub mod Sorting
pub mod Spaces
pub mod Stepping
