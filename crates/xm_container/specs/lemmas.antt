pub mod EntriesTerms
