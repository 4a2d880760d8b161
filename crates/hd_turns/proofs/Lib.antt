pub mod Growing
pub mod Lists
pub mod Numbering
pub mod Turning
