use Rattle.codecs.specs.lemmas.SteadyLemmas.{coded_steady, keyed_steady, optional_steady, pair_steady, tested_steady, through_steady, through_where_steady}
use Rattle.codecs.proofs.law.parts_are_steady.Goals as goal

pub returns-clause-pairs : goal.returns-clause-pairs
returns-clause-pairs g c = λ short first second key one other. (pair_steady short first second one other, keyed_steady short first second key one other)

pub returns-clause-others : goal.returns-clause-others
returns-clause-others g c = λ short refused meaning good to from c one. (through_steady short to from c one, through_where_steady short good to from c one, coded_steady short refused meaning from c one)

pub returns-clause-tested : goal.returns-clause-tested
returns-clause-tested g c = tested_steady

pub returns-clause-optional : goal.returns-clause-optional
returns-clause-optional g c = optional_steady
