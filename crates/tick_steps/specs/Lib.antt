pub mod CueValues
pub mod Kept
pub mod Machine
pub mod Quiet
pub mod Span
pub mod TickLines
pub mod Work
pub mod lemmas
