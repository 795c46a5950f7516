pub mod Abreast
pub mod Courses
pub mod Making
pub mod Orders
pub mod Prelude
pub mod Releasing
pub mod Walking
