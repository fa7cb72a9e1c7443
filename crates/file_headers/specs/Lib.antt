pub mod Faults
pub mod Fields
pub mod Gives
pub mod Heads
pub mod Known
pub mod Lifted
pub mod Steps
pub mod lemmas
