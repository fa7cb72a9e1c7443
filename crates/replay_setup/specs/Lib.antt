pub mod OfRun
pub mod Readied
pub mod lemmas
