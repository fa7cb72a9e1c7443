pub mod Replaying
pub mod Ticks
