pub mod Elastic
pub mod Accepted
pub mod Plain
pub mod Listed
