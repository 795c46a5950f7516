pub mod GrantLemmas
