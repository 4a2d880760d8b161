pub mod Terms
pub mod Typed
pub mod Atoms
pub mod Expressions
pub mod Conditions
pub mod Effects
pub mod Reading
pub mod Steps
