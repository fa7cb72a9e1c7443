pub mod Codec
pub mod Files
pub mod Gives
pub mod Lawful
pub mod Laws
pub mod Steady
pub mod lemmas
pub mod rows
