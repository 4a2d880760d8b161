pub mod Frontier
pub mod Held
pub mod Kept
pub mod Least
pub mod Lookup
pub mod Nodes
pub mod Total
