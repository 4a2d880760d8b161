mod BlockRows
mod Eights
pub mod Filling
mod Following
pub mod Looking
pub mod Marking
mod Packed
pub mod Placing
pub mod Showing
mod Thinning
pub mod Words
mod Writing
