pub mod ReadTerms
