pub mod RestoreTerms
pub mod Values
