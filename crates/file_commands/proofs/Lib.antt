pub mod PackingLemmas
