pub mod ElementsLemmas
pub mod FewLemmas
pub mod PutsLemmas
pub mod ReadLemmas
