pub mod Bare
pub mod Inside
pub mod System
pub mod lemmas
