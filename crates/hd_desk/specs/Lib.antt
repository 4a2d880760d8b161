pub mod Bound
pub mod Hands
pub mod Kept
pub mod Mail
pub mod Offers
pub mod Passes
pub mod Steps
pub mod Views
