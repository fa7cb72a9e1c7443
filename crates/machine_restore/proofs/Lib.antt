pub mod GivenLemmas
pub mod InputLemmas
pub mod SavedLemmas
