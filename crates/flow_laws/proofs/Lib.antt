pub mod PlannedLemmas
pub mod RowLemmas
pub mod SteererLemmas
