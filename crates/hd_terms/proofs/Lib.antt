pub mod Groups
pub mod CompleteTyped
pub mod CompleteParts
pub mod CompleteLists
pub mod SoundTyped
pub mod SoundParts
pub mod SoundLists
