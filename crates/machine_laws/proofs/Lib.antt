pub mod Hands
pub mod Orders
