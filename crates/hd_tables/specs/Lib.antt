pub mod Bits
pub mod Blocks
pub mod Chunks
pub mod Drafts
pub mod Kids
pub mod Places
pub mod Rows
pub mod Widths
