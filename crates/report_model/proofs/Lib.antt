pub mod EscapeLemmas
pub mod FieldLemmas
pub mod FrameLemmas
