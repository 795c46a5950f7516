pub mod Cutting
pub mod Found
pub mod Numbering
pub mod Replaying
pub mod SameMarks
pub mod Spaces
pub mod Whole
