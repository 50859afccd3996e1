pub mod Indexed
pub mod Rows
pub mod inner
