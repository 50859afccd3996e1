pub mod Values
pub mod Services
pub mod Laws
