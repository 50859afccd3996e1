pub mod inner
pub mod Prepared
pub mod Picks
pub mod Readies
pub mod Movers
