pub mod Above
pub mod Examples
pub mod Following
pub mod Held
pub mod Holding
pub mod Locking
pub mod Segmented
pub mod Whole
