use Rattle.std.proofs.Common.{◌≡◌, [], ap, arith, ◌∙◌}
use Rattle.std.proofs.lemmas.Bool.Decides.{nat_tests}
use Rattle.upset_model.specs.Places.{lines_for}
use Rattle.xm_alone.proofs.StruckLemmas.{no_items, none_follows}
use Rattle.xm_alone.proofs.following.follow.Goals as goal

pub returns-then-is_empty-clause-follows : goal.returns-then-is_empty-clause-follows
returns-then-is_empty-clause-follows g c = λ own its later.
    let none : c.args.due.lines.now ≡ [] = no_items c.args.due.lines.now (grind (arith, nat_tests, c.is_empty.ensures, c.if-is_empty.true)) in
    none_follows c.follow_ticks.result.ended c.follow_ticks.result.ticks c.args.due.most c.args.p own c.args.next c.args.machine.now.state c.follow_ticks.new.machine.state (g.O.Sink.got c.args.out.now) (g.O.Sink.got c.follow_ticks.new.out)
    (record { places = _; marks = _ }) (record { places = _; marks = _ }) c.follow_ticks.new.machine.said (its ∙ ap (lines_for c.args.p) none) later c.follow_ticks.ensures.most c.follow_ticks.ensures.follows

pub returns-else-is_empty-clause-follows : goal.returns-else-is_empty-clause-follows
returns-else-is_empty-clause-follows g c = λ own its later. c.follow_struck.ensures.follows own its
