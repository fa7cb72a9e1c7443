pub mod Flat
pub mod Flips
pub mod Loading
pub mod Memories
pub mod Near
pub mod lemmas
