use Rattle.codecs.specs.lemmas.FileLemmas.{none_is_prefix}
use Rattle.codecs.specs.lemmas.SteadyLemmas.{cut_file_is_short, cut_is_short}
use Rattle.codecs.proofs.law.ends_are_known.Goals as goal

pub returns-clause-prefix : goal.returns-clause-prefix
returns-clause-prefix g c = none_is_prefix

pub returns-clause-cut : goal.returns-clause-cut
returns-clause-cut g c = cut_is_short

pub returns-clause-file : goal.returns-clause-file
returns-clause-file g c = cut_file_is_short
