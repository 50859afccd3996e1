pub mod Acts
pub mod Aheads
pub mod Groups
pub mod Links
pub mod Stacks
pub mod Windows
