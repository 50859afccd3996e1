pub mod Sorted
mod Boxes
mod Lives
pub mod Desks
