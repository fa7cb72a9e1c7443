pub mod AccessLemmas
pub mod MemoryFacts
pub mod MemoryLemmas
pub mod WholeLemmas
