pub mod Instructions
pub mod Listing
