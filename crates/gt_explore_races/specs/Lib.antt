pub mod Accesses
pub mod Listing
pub mod Paths
pub mod Races
pub mod Replays
pub mod Spaces
pub mod Texts
