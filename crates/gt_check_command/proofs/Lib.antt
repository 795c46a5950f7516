pub mod Advised
pub mod Broken
pub mod ErrorLemmas
pub mod JudgeLemmas
pub mod Scripted
