pub mod SharesTerms
pub mod MakingTerms
