mod Examples
mod Rows
pub mod Standing
pub mod Traps
mod Words
mod Placed
mod Exprs
mod Stmts
mod Views
mod Decls
mod Read
mod Told
