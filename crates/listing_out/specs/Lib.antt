pub mod Listing
pub mod LineTexts
pub mod Parts
