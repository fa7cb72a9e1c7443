pub mod KeptTerms
pub mod Tried
