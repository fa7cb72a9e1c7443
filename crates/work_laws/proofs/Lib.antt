pub mod ChangeCallLemmas
pub mod ChangeLemmas
pub mod ChangeRunLemmas
pub mod ChangeTickLemmas
pub mod LabelCallLemmas
pub mod LabelLemmas
pub mod OrderLemmas
pub mod RowLemmas
