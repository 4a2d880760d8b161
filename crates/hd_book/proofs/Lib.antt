pub mod Between
pub mod Ends
pub mod Following
pub mod Held
pub mod Redeeming
pub mod Releasing
pub mod Spent
pub mod Taking
