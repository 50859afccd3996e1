pub mod Children
pub mod Judged
pub mod Places
