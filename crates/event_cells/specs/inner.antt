pub mod Places
pub mod Boxes
pub mod Releases
pub mod Lives
