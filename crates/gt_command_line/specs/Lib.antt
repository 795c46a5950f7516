pub mod Usage
pub mod Files
pub mod Leading
pub mod Letters
pub mod Rules
pub mod Claiming
pub mod Commands
pub mod Prelude
