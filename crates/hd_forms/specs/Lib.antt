pub mod Error
pub mod Word
pub mod Forms
pub mod View
pub mod Nesting
pub mod Reading
pub mod Text
