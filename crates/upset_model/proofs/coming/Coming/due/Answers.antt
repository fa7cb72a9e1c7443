use Rattle.std.proofs.Common.{sym}
use Rattle.std.proofs.lemmas.List.{take-append-drop}
use Rattle.upset_model.specs.lemmas.ComingLemmas.{drop_due, drop_ordered, take_due}
use Rattle.upset_model.proofs.coming.Coming.due.Goals as goal

pub returns-clause-these : goal.returns-clause-these
returns-clause-these c =
    rw (c.split_at.ensures.front, c.count_due.ensures.value, c.self.view_is) (take_due c.args.tick c.args.self.now c.requires)

pub returns-clause-later : goal.returns-clause-later
returns-clause-later c = λ k below.
    rw (c.split_at.ensures.back, c.count_due.ensures.value, c.self.view_is) (drop_due c.args.tick k c.args.self.now below)

pub returns-clause-ordered : goal.returns-clause-ordered
returns-clause-ordered c =
    rw (c.split_at.ensures.back, c.count_due.ensures.value, c.self.view_is) (drop_ordered c.args.tick c.args.self.now c.requires)

pub returns-clause-all : goal.returns-clause-all
returns-clause-all c = rw (c.split_at.ensures.front, c.split_at.ensures.back, c.self.view_is) (sym (take-append-drop c.count_due.result c.args.self.now))
