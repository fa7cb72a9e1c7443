pub mod SaveTerms
