pub mod Canon
pub mod Layout
pub mod Written
pub mod inner
