pub mod FlatTerms
pub mod LoadingLemmas
pub mod MemoriesTerms
pub mod NearTerms
pub mod RefusedLemmas
pub mod SelectedLemmas
