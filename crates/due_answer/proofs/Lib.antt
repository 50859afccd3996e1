pub mod DueLemmas
mod Examples
pub mod FoundLemmas
pub mod StatusLemmas
