pub mod Laws
pub mod Leading
pub mod Packing
pub mod Splitting
