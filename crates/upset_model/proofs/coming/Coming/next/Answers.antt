use Rattle.std.proofs.Common.{sym, arith}
use Rattle.upset_model.specs.lemmas.ComingLemmas.{first_least, none_due}
use Rattle.upset_model.proofs.coming.Coming.next.Goals as goal

pub returns-in-Some-clause-ordered : goal.returns-in-Some-clause-ordered
returns-in-Some-clause-ordered c = λ first ordered.
    first_least first c.args.self.now c.in-Some.line.now c.min.result (sym (rw c.self.view_is at c.in-Some.ensures.value)) (omega (arith, c.min.ensures)) ordered

pub returns-in-Some-clause-none : goal.returns-in-Some-clause-none
returns-in-Some-clause-none c = λ first ordered k below. none_due c.min.result k c.args.self.now (returns-in-Some-clause-ordered c first ordered) below
