pub mod GroupingTerms
pub mod ImagingLemmas
pub mod MakesTerms
pub mod ParsingLemmas
