pub mod inner
pub mod Due
pub mod Tasks
pub mod Prepared
