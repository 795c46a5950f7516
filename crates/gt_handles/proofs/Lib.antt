pub mod Vacant
