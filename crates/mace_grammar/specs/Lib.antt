pub mod inner
pub mod Part
pub mod Words
pub mod Levels
pub mod Grammar
pub mod Nest
pub mod Spelled
pub mod Fits
