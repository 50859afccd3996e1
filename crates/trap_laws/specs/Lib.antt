pub mod Fuel
pub mod Traps
pub mod Places
