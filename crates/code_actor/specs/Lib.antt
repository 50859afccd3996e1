pub mod CodeActors
pub mod Follows
pub mod Locks
