pub mod LineTerms
pub mod NumberTerms
