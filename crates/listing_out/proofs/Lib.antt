mod Examples
pub mod ListingLemmas
pub mod SinkLemmas
pub mod PartLemmas
