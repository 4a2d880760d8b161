pub mod Certificate
pub mod Covering
pub mod Error
pub mod Gathering
pub mod Survey
