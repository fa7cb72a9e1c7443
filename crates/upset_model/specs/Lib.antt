pub mod Upsets
pub mod Places
pub mod Coming
pub mod Reports
pub mod lemmas
pub mod rows
