pub mod CausesLemmas
pub mod GrowthLemmas
