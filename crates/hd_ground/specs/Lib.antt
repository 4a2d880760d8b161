pub mod Amounts
pub mod Error
pub mod Telling
