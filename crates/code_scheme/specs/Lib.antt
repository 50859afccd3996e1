pub mod Texts
pub mod Scheme
pub mod Heights
pub mod Programs
pub mod Typed
pub mod Correct
