pub mod Counters
pub mod Passes
pub mod Jobs
