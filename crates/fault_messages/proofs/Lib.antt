pub mod Ascii
pub mod PieceLemmas
