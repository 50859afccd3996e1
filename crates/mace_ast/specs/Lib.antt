pub mod Counts
pub mod Exprs
pub mod Stmts
pub mod Decls
