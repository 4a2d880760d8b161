pub mod Chains
pub mod Keeping
pub mod Picking
pub mod Stretches
