pub mod Shares
pub mod lemmas
