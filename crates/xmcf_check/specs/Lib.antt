pub mod Described
pub mod Elements
pub mod Places
pub mod Verdict
pub mod lemmas
