pub mod Planned
pub mod Steerers
pub mod rows
