pub mod Redone
pub mod Followed
pub mod Texts
pub mod Printed
pub mod Lines
