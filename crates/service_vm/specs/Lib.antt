pub mod Wants
pub mod Boxes
pub mod Frames
pub mod inner
pub mod Spin
