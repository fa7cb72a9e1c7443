pub mod OfHeads
pub mod Texts
