pub mod MapLemmas
mod QueueMaps
pub mod Holding
