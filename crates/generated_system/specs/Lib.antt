pub mod Generated
pub mod Reported
pub mod lemmas
