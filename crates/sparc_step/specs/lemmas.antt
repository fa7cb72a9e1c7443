pub mod CachedLemmas
pub mod CachedTerms
pub mod CodesLemmas
pub mod ExecutionTerms
pub mod HeldLemmas
pub mod TransfersTerms
pub mod UndoneLemmas
pub mod WindowTraps
