pub mod FitLemmas
pub mod ImageLemmas
pub mod LengthLemmas
pub mod NameLemmas
pub mod NumberedLemmas
pub mod PackLemmas
