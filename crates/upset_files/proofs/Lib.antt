pub mod FirstLemmas
pub mod LineLemmas
pub mod LoopLemmas
pub mod NumberLemmas
pub mod PlaceLemmas
pub mod ReadingLemmas
pub mod StrikeLemmas
pub mod WordLemmas
