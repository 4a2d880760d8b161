pub mod Books
pub mod Desks
pub mod Lists
pub mod Nodes
pub mod Tasks
pub mod Workers
pub mod Jobs
