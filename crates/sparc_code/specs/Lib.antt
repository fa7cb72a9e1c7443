pub mod Fields
pub mod Opcodes
pub mod Ranges
pub mod Spells
pub mod Decoded
pub mod Laws
pub mod lemmas
