pub mod CheckpointTexts
pub mod Dues
pub mod Forms
pub mod Laws
pub mod Points
pub mod Refusals
pub mod Verdicts
pub mod inner
