pub mod Fronts
pub mod Guesses
pub mod Tails
