pub mod LoneSpanTerms
pub mod LoneWorkTerms
