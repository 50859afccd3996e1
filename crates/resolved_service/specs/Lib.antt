pub mod Fits
pub mod Jobs
pub mod Meaning
pub mod Steps
pub mod View
pub mod World
