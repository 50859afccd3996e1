pub mod Answers
pub mod Kinds
pub mod Meanings
pub mod Numbers
pub mod Operators
pub mod Rows
pub mod Scalars
pub mod Takes
