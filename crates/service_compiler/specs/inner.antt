pub mod Drafts
pub mod Fronts
pub mod Functions
pub mod Operands
pub mod Sizes
