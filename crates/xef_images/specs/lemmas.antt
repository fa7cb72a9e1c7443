pub mod ImageLemmas
pub mod TableLemmas
pub mod TestsTerms
pub mod XefLemmas
