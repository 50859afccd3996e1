pub mod Lines
pub mod Runs
pub mod Owed
pub mod Moves
pub mod Lives
pub mod inner
