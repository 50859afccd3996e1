pub mod Classes
pub mod Readers
pub mod Run
