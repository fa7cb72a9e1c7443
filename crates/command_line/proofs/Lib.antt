pub mod NumberLemmas
pub mod OptionLemmas
pub mod PartFileLemmas
pub mod ReplayLemmas
pub mod Spelling
pub mod WordLemmas
pub mod WordPairLemmas
