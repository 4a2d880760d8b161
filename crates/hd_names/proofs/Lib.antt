pub mod Cycles
pub mod NameLists
