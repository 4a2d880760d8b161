pub mod Faults
pub mod Held
pub mod Journals
pub mod Opening
pub mod Playing
pub mod Reporting
pub mod ReportText
pub mod Seats
