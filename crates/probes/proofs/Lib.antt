pub mod Eights
