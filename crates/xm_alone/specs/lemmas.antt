pub mod Cues
pub mod Kept
pub mod ReplayTerms
pub mod ShownTerms
pub mod Struck
