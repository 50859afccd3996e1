pub mod Forms
pub mod Refusals
pub mod Sample
pub mod Shots
pub mod SnapshotTexts
pub mod Verdicts
pub mod inner
