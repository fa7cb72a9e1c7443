pub mod ClockLemmas
pub mod SlotLemmas
pub mod StretchLemmas
