pub mod Gives
pub mod Laws
pub mod Reading
pub mod Spelled
pub mod Version
pub mod Xmc
pub mod lemmas
