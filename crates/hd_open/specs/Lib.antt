pub mod Counts
pub mod Kept
pub mod Live
pub mod Marks
pub mod Open
pub mod Queue
pub mod Totals
