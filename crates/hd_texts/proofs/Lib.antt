pub mod Explaining
pub mod LowerForms
pub mod Named
pub mod TextNames
pub mod Valid
