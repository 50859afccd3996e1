pub mod Fits
pub mod JournalTexts
pub mod LabelTexts
pub mod Verdicts
pub mod inner
