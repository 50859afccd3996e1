pub mod Hints
pub mod inner
