pub mod Leaving
mod Advancing
