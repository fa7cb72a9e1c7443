pub mod KeptLemmas
pub mod Reached
pub mod RowTerms
pub mod Sources
