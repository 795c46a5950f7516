pub mod AllowColumns
pub mod Check
pub mod Earlier
pub mod Placing
pub mod Useless
