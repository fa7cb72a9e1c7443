-- Each requirement is possible.
use Rattle.plan_maker.specs.lemmas.NeededTerms.{IsPossible}
use Rattle.plan_maker.proofs.EachLemmas.{all_from_each}
use Rattle.plan_maker.proofs.ServedLemmas.{each_possible}
use Rattle.plan_maker.proofs.making.plan_in.Goals as goal

pub demand-needed-requires-clause-possible : goal.demand-needed-requires-clause-possible
demand-needed-requires-clause-possible c = all_from_each IsPossible c.args.requirements.now (each_possible 0 c.args.requirements.now c.requires.possible)
