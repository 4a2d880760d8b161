pub mod Cutting
pub mod Digits
pub mod Fronts
pub mod Reading
pub mod Runs
pub mod Spans
pub mod Table
pub mod Telling
