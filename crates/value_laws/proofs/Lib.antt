mod Examples
mod Rows
mod Acts
pub mod Calls
pub mod Scripts
mod Bounded
mod Exprs
mod Stmts
mod Decls
pub mod Read
pub mod Lines
