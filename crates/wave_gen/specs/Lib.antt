pub mod Lines
pub mod Load
pub mod Summary
