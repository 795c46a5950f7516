pub mod Answered
mod Explored
mod United
