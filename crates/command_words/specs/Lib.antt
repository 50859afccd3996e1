pub mod Values
pub mod Choice
pub mod Reading
pub mod ByHand
pub mod Inputs
