pub mod Error
pub mod Groups
pub mod Image
pub mod Inspecting
pub mod Reading
pub mod Stops
pub mod Walking
