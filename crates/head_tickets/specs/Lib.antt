pub mod Heads
pub mod HeadFields
