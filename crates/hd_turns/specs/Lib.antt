pub mod Calls
pub mod Growth
pub mod Settling
pub mod Totals
pub mod Truth
pub mod Worker
