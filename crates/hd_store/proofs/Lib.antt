pub mod Failing
pub mod Leaving
pub mod Marking
