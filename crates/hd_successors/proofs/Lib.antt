pub mod Bits
pub mod Chaining
pub mod Judging
pub mod Rows
pub mod Tests
