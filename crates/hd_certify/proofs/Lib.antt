pub mod Justified
pub mod Meeting
pub mod Numbered
pub mod Parts
pub mod Refusing
pub mod Showing
pub mod Rows
pub mod Surveys
