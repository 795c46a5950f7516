pub mod AllowLemmas
pub mod CheckLemmas
pub mod EarlierLemmas
pub mod KnownLemmas
pub mod WarningLemmas
