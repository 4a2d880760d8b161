pub mod Written
pub mod OneForm
pub mod Inverting
pub mod Whole
pub mod Nested
