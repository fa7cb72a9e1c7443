mod HeardLemmas
