pub mod AtomBits
pub mod Packings
pub mod Splitting
pub mod Steps
pub mod Trips
pub mod ValueBytes
