pub mod AreaLemmas
pub mod ValueLemmas
