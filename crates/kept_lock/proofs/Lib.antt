pub mod Accounts
pub mod Entries
mod Examples
pub mod Growing
pub mod Joining
pub mod Laws
pub mod Steps
pub mod Unchanged
