pub mod BreakingLemmas
pub mod NamingLemmas
pub mod PrintingLemmas
pub mod ReadingLemmas
