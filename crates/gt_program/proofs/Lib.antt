pub mod Chosen
pub mod Obeyed
mod OneExplored
mod OneRun
