pub mod Readings
pub mod Plans
pub mod Texts
pub mod Traces
