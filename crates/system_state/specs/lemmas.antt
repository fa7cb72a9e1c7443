pub mod FlipTerms
pub mod ServedLemmas
pub mod Shown
pub mod SightLemmas
pub mod StateLemmas
pub mod StateTerms
pub mod SteppingTerms
pub mod TurningTerms
