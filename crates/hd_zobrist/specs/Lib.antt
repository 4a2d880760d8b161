pub mod Hash
pub mod Tables
