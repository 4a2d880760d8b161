pub mod Committing
pub mod Fault
pub mod Line
pub mod Opening
