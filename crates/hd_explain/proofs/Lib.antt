pub mod Named
pub mod Traced
