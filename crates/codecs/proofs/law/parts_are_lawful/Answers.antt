use Rattle.codecs.specs.lemmas.CodecLemmas.{coded_lawful, keyed_lawful, optional_lawful, pair_lawful, tested_lawful, through_lawful, through_where_lawful}
use Rattle.codecs.proofs.law.parts_are_lawful.Goals as goal

pub returns-clause-pairs : goal.returns-clause-pairs
returns-clause-pairs g c = pair_lawful

pub returns-clause-keyed : goal.returns-clause-keyed
returns-clause-keyed g c = keyed_lawful

pub returns-clause-others : goal.returns-clause-others
returns-clause-others g c = through_lawful

pub returns-clause-some : goal.returns-clause-some
returns-clause-some g c = through_where_lawful

pub returns-clause-coded : goal.returns-clause-coded
returns-clause-coded g c = coded_lawful

pub returns-clause-tested : goal.returns-clause-tested
returns-clause-tested g c = tested_lawful

pub returns-clause-optional : goal.returns-clause-optional
returns-clause-optional g c = optional_lawful
