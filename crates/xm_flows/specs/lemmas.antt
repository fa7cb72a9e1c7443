pub mod ActLemmas
pub mod CalmLemmas
pub mod FrameLemmas
pub mod MasksTerms
