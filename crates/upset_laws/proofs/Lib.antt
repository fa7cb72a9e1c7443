pub mod UpsetLemmas
pub mod FlipLemmas
pub mod GroupLemmas
pub mod ReportLemmas
pub mod TableLemmas
pub mod ReplayLemmas
