pub mod ActLemmas
pub mod LogLemmas
pub mod ProcessorLemmas
pub mod ShownLemmas
