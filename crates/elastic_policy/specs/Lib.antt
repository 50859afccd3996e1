pub mod Moves
pub mod MoveFacts
pub mod Expansions
pub mod Stages
pub mod Progress
pub mod inner
