pub mod Numbers
pub mod Registers
pub mod Instructions
pub mod Ranges
pub mod Cues
pub mod Laws
