pub mod Chains
pub mod Marks
pub mod Seeing
pub mod Successors
pub mod Watching
