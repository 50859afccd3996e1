pub mod Walking
pub mod Unique
pub mod Written
