pub mod RunLemmas
pub mod SeenTerms
pub mod WordsTerms
