pub mod Clocks
pub mod Flips
pub mod Laws
