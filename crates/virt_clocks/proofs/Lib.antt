pub mod LookLemmas
pub mod FlipLemmas
