pub mod Keeping
pub mod Safely
pub mod Keeps
pub mod SameMeaning
