pub mod CallLemmas
pub mod MildLemmas
pub mod ServedLemmas
pub mod ServingLemmas
