pub mod Batches
pub mod Least
pub mod Mapping
pub mod Meeting
pub mod Settled
pub mod Taken
pub mod Turned
