pub mod Hashing
pub mod Wrapping
