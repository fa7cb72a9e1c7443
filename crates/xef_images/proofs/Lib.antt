pub mod DigestLemmas
pub mod ElfLemmas
pub mod Fronts
pub mod Loads
pub mod SortLemmas
pub mod Sorting
