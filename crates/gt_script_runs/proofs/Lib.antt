pub mod AlikeLemmas
pub mod LabelLemmas
pub mod StartLemmas
