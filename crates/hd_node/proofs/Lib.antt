pub mod Finding
pub mod Keys
pub mod Leading
pub mod Skipping
pub mod Steps
