pub mod Byte
pub mod LexError
pub mod Reading
pub mod Text
pub mod Word
