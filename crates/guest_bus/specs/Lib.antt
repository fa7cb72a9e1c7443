pub mod Access
pub mod Memory
pub mod Whole
pub mod Words
pub mod lemmas
