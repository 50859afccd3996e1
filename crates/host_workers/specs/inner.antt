pub mod Visits
pub mod Calls
pub mod Rounds
pub mod Writing
pub mod Teams
