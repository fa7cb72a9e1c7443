pub mod EndLemmas
pub mod LinkLemmas
pub mod ReceivingLemmas
