pub mod BitLemmas
pub mod FactLemmas
pub mod ReportLemmas
pub mod StruckLemmas
pub mod ComingLemmas
pub mod ComingTerms
pub mod Segments
