pub mod Fits
pub mod Gives
pub mod Laws
pub mod Reading
pub mod Spelling
pub mod Texts
pub mod lemmas
pub mod rows
