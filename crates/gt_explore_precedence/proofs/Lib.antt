pub mod Judged
mod OrdersAnswered
pub mod PairLemmas
pub mod Preceded
