pub mod LoneSpan
pub mod LoneWork
pub mod lemmas
