pub mod Journals
pub mod Orders
pub mod Origins
pub mod Recorded
pub mod Serial
