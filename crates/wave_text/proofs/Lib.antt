mod Examples
pub mod CountedLemmas
pub mod LineLemmas
pub mod NumberLemmas
pub mod QuoteLemmas
pub mod PairLemmas
pub mod ReadBack
pub mod SplitLemmas
