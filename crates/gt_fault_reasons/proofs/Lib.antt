pub mod BlockLemmas
pub mod FittingLemmas
mod Named
