pub mod NumberLemmas
pub mod StepLemmas
pub mod TrapLemmas
pub mod CallLemmas
pub mod WorkLemmas
pub mod MachineLemmas
