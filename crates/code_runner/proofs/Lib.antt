pub mod Meant
pub mod Putting
pub mod Stepped
pub mod Walking
