pub mod Prelude
pub mod Precedence
