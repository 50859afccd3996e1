mod Examples
pub mod Equation
pub mod Meant
