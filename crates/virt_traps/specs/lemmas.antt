pub mod MovesTerms
pub mod SaveAreaTerms
pub mod SavedLemmas
