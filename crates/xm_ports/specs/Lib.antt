pub mod Channels
pub mod Contents
pub mod Kept
pub mod Ports
pub mod Stored
pub mod lemmas
