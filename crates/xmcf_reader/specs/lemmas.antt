pub mod Cuts
pub mod FaultsLemmas
pub mod FaultsTerms
pub mod Readings
pub mod Seen
pub mod Trees
