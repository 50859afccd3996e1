pub mod Moving
pub mod Driving
pub mod Drivable
