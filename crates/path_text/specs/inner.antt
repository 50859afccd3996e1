pub mod Children
pub mod Fronts
