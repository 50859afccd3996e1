pub mod Lines
pub mod Parts
pub mod Tails
pub mod Verbs
