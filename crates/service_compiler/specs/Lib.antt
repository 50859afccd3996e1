pub mod inner
pub mod Kept
pub mod Faults
pub mod Slots
