pub mod Harmless
pub mod Quietness
