pub mod Visiting
pub mod Standing
pub mod Living
