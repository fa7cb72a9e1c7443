pub mod Acts
pub mod Few
pub mod FromEqual
pub mod Planned
pub mod Served
pub mod Spared
pub mod rows
