pub mod BeginLemmas
pub mod MakingLemmas
pub mod NumberLemmas
pub mod ReadyLemmas
pub mod RunLemmas
pub mod ScriptLemmas
pub mod StrikingLemmas
pub mod WorkLemmas
