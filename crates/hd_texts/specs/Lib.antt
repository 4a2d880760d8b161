pub mod Digest
pub mod Fault
pub mod Printing
pub mod Tasks
