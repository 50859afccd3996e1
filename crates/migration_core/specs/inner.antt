pub mod Next
pub mod Finds
