pub mod Distinct
pub mod Lists
pub mod Members
pub mod Numbers
pub mod Options
pub mod Places
pub mod Tests
pub mod Truth
