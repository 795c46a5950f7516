pub mod LineLemmas
pub mod OrderLemmas
pub mod ListedLemmas
