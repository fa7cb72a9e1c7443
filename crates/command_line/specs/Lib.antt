pub mod Grammar
pub mod Seen
pub mod Texts
pub mod Words
pub mod lemmas
