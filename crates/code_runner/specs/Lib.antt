pub mod inner
pub mod Coded
