pub mod Lone
pub mod Replayed
pub mod Receiving
