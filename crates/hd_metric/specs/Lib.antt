pub mod Fault
pub mod Metric
