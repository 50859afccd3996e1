pub mod AcceptLemmas
pub mod ReadyLemmas
pub mod PlainLemmas
pub mod ListedLemmas
pub mod PieceLemmas
