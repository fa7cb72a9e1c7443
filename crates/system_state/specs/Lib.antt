pub mod Inputs
pub mod Lending
pub mod Serving
pub mod State
pub mod Stepping
pub mod Turning
pub mod lemmas
