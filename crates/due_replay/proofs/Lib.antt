pub mod DueLemmas
pub mod ReplayLemmas
pub mod TreeLemmas
