pub mod Tables
pub mod Gathered
pub mod Exact
pub mod Starting
pub mod MeetingForms
pub mod TaskFluents
pub mod Finding
pub mod TaskAtoms
