pub mod Readying
pub mod Standing
pub mod Segments
pub mod Staying
pub mod Idle
pub mod Choosing
pub mod Leased
pub mod Telling
