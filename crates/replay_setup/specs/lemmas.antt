pub mod ReadiedTerms
