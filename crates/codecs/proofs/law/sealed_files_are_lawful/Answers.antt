use Rattle.codecs.specs.lemmas.CutLemmas.{cut_sealed_is_short}
use Rattle.codecs.specs.lemmas.FileLemmas.{length-sealed, sealed_ends, sealed_lawful}
use Rattle.codecs.proofs.law.sealed_files_are_lawful.Goals as goal

pub returns-clause-law : goal.returns-clause-law
returns-clause-law g c = sealed_lawful

pub returns-clause-prefix : goal.returns-clause-prefix
returns-clause-prefix g c = sealed_ends

pub returns-clause-length : goal.returns-clause-length
returns-clause-length g c = length-sealed

pub returns-clause-cut : goal.returns-clause-cut
returns-clause-cut g c = cut_sealed_is_short
