mod Digits
mod Words
mod CutLemmas
mod Progress
mod Order
mod Verdict
mod Quotes
mod Splits
mod FrontSpells
mod Takes
mod Rows
mod Built
mod Counts
mod Stands
mod Faultless
mod Paths
mod OfTags
pub mod BytesLemmas
pub mod DraftsLemmas
