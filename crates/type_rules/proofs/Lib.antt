pub mod Counts
mod Examples
pub mod First
