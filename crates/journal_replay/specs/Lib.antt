pub mod Replays
pub mod Reports
pub mod inner
