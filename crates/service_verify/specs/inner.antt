pub mod Asks
pub mod Linked
pub mod Nexts
pub mod Surveys
