pub mod Elastics
pub mod Forms
pub mod Judged
pub mod Laws
pub mod Pieces
pub mod Policies
pub mod Scripts
pub mod inner
