pub mod NeededTerms
pub mod ServedTerms
pub mod Turns
