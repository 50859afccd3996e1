pub mod Walks
pub mod Rules
pub mod Measured
pub mod inner
