pub mod CallLemmas
pub mod JobLemmas
pub mod ListLemmas
pub mod RanLemmas
