pub mod PieceLemmas
mod StreamLemmas
pub mod TextLemmas
