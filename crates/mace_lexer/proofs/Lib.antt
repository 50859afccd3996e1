pub mod Tables
pub mod Values
pub mod Forms
pub mod Bodies
pub mod Longest
pub mod Found
pub mod Places
pub mod CutLemmas
mod Rows
