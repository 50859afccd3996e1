pub mod Causes
pub mod Held
pub mod Memory
pub mod Standard
pub mod Streams
