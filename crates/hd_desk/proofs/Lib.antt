pub mod Begins
pub mod BoundSums
mod Gathering
pub mod Handing
pub mod Least
mod Moves
pub mod Posting
pub mod Steps
mod Sums
