pub mod Classes
pub mod Each
pub mod Names
pub mod Services
pub mod Slots
pub mod Sound
pub mod Steps
pub mod Trees
