mod LoadingLemmas
mod PageLemmas
mod PutLemmas
mod RangeLemmas
mod SpellingLemmas
