pub mod EncodedLemmas
pub mod RangeLemmas
