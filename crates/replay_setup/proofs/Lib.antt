pub mod InputLemmas
pub mod OfRunLemmas
pub mod RangeLemmas
pub mod ShownLemmas
