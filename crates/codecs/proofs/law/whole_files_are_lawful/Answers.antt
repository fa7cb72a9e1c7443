use Rattle.codecs.specs.lemmas.FileLemmas.{whole_ends, whole_lawful}
use Rattle.codecs.proofs.law.whole_files_are_lawful.Goals as goal

pub returns-clause-law : goal.returns-clause-law
returns-clause-law g c = whole_lawful

pub returns-clause-prefix : goal.returns-clause-prefix
returns-clause-prefix g c = whole_ends
