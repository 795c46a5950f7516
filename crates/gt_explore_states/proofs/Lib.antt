pub mod Orders
pub mod Showing
pub mod Spaces
pub mod TablesFollow
