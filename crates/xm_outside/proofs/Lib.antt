mod FileLemmas
mod GrowthLemmas
