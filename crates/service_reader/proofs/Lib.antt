pub mod Few
pub mod ReadLemmas
