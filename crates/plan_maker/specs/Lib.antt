pub mod Course
pub mod Needed
pub mod Planned
pub mod Served
pub mod lemmas
pub mod rows
