pub mod Vias
