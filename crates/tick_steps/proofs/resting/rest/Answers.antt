use Rattle.std.proofs.Common.{◌∙◌}
use Rattle.std.proofs.lemmas.Bool.{OnTrue_at}
use Rattle.tick_steps.proofs.IdleTimerLemmas.{all_unarmed, all_undue, rests_alone}
use Rattle.tick_steps.proofs.resting.rest.Goals as goal

pub returns-then-is_known_untimed : goal.returns-then-is_known_untimed
returns-then-is_known_untimed c = all_unarmed c.args.working c.args.time c.args.sys.now (OnTrue_at c.if-is_known_untimed.true c.is_known_untimed.ensures)

pub returns-then-is_known_undue : goal.returns-then-is_known_undue
returns-then-is_known_undue c =
    c.is_known_undue.ensures.unchanged ∙ all_undue c.args.working c.args.time c.args.sys.now (OnTrue_at c.if-is_known_undue.true c.is_known_undue.ensures.due)

pub returns-then-is_alone : goal.returns-then-is_alone
returns-then-is_alone c =
    let one = rw c.if-is_alone.true at c.is_alone.ensures.one in
    let working = rw c.if-is_alone.true at c.is_alone.ensures.working in
    rests_alone c.args.working c.args.time c.args.sys.now one working
