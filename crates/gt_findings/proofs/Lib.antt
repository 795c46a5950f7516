pub mod ColumnLemmas
pub mod FindingLemmas
pub mod KeepLemmas
pub mod LineLemmas
pub mod ReportLemmas
