pub mod Kept
pub mod Replay
pub mod Shown
pub mod lemmas
