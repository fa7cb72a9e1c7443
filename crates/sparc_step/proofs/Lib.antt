mod ConditionLemmas
mod EnteringLemmas
mod StoreLemmas
