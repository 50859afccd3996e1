pub mod Codes
pub mod Spellings
pub mod Words
pub mod Texts
pub mod Pieces
pub mod Cuts
pub mod Lexed
pub mod inner
