pub mod Closed
pub mod Notes
pub mod Numbering
pub mod Picked
pub mod Short
pub mod Shut
