pub mod Answers
pub mod Services
pub mod Runs
pub mod Told
pub mod Scripts
pub mod Accepted
pub mod Coded
pub mod Served
