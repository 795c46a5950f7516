pub mod Answering
pub mod AsObjects
pub mod Exploring
pub mod Given
pub mod Objects
pub mod Outputs
pub mod Texts
pub mod Witness
