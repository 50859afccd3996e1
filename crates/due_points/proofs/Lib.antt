pub mod AcceptLemmas
pub mod HostLemmas
pub mod LawLemmas
pub mod ListedLemmas
