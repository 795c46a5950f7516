pub mod Columns
pub mod Findings
pub mod LineWords
pub mod Placing
pub mod Report
