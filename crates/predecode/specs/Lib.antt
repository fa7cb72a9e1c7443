pub mod Kinds
pub mod Rows
pub mod Kept
pub mod lemmas
