pub mod Covered
pub mod Enough
pub mod Laying
pub mod Overlay
pub mod Placing
pub mod Shown
pub mod Stretches
pub mod Writes
