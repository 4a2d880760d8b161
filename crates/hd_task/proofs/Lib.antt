pub mod Atoms
pub mod Bounds
pub mod Deciding
pub mod Fluents
pub mod Growing
pub mod Optimal
pub mod Reaching
pub mod Runs
