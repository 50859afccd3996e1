pub mod Picking
pub mod JobKinds
pub mod Driven
