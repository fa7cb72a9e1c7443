pub mod Turning
pub mod Runs
pub mod Keeping
pub mod lemmas
