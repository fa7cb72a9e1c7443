pub mod Ending
pub mod LaterLemmas
pub mod PlaceLemmas
pub mod PlaceTerms
