pub mod Sections
pub mod Domain
pub mod Problem
pub mod Text
pub mod Reading
