pub mod Asking
pub mod Listable
pub mod Done
pub mod Others
pub mod Index
pub mod Updating
pub mod Takeable
