pub mod Children
pub mod Expansion
pub mod Hashed
pub mod Outcome
pub mod Parcel
