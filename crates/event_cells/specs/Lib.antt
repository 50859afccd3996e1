pub mod Keeps
pub mod Cards
pub mod Cells
pub mod inner
