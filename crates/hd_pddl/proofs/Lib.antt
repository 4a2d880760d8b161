pub mod CompleteSections
pub mod CompleteDomain
pub mod CompleteProblem
pub mod SoundSections
pub mod SoundDomain
pub mod SoundProblem
pub mod Domains
pub mod Problems
