mod RelayLemmas
pub mod RunLemmas
