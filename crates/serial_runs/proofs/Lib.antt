pub mod Alike
pub mod ByOne
pub mod Causes
pub mod Cuts
pub mod Ends
mod Examples
pub mod Oldest
pub mod Past
pub mod Sited
pub mod Sources
pub mod Turning
pub mod Wherever
