pub mod ClassLemmas
pub mod Examples
pub mod FitLemmas
pub mod KeptLemmas
pub mod OrderLemmas
pub mod Ordered
pub mod SlotLemmas
