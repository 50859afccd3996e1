pub mod Flags
pub mod Gathers
pub mod Indexing
pub mod OperatorLemmas
pub mod Rooms
pub mod Walks
