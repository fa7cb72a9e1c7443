pub mod MeetingTerms
pub mod RunLemmas
