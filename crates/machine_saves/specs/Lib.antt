pub mod Gives
pub mod Loaded
pub mod lemmas
