pub mod Admits
pub mod Kept
