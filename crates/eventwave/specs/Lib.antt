pub mod inner
pub mod Ends
