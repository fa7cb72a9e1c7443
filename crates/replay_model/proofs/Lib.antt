pub mod CopyLemmas
pub mod KeptLemmas
pub mod PartLemmas
pub mod RowLemmas
pub mod TakingLemmas
pub mod TickLemmas
pub mod ReceivingLemmas
