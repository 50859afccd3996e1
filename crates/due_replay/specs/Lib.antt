pub mod inner
pub mod Replayed
