pub mod DecodedLemmas
pub mod Encoded
