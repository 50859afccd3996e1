pub mod Owing
