pub mod Place
pub mod Spans
pub mod lemmas
