pub mod AlongLemmas
pub mod FitLemmas
pub mod FitsTerms
pub mod NameLemmas
pub mod Room
pub mod Walks
