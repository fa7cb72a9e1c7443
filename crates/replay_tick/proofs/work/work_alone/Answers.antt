use Rattle.std.proofs.Common.{sym, ◌∙◌}
use Rattle.tick_steps.specs.CueValues.{sight_value}
use Rattle.replay_tick.proofs.LoneWorkLemmas.{lone_silent, turns_met, woken_takes, work_stays, work_went}
use Rattle.replay_tick.proofs.work.work_alone.Goals as goal

pub goes_on-requires-clause-turns : goal.goes_on-requires-clause-turns
goes_on-requires-clause-turns c = turns_met c.args.p c.args.first c.args.sys.now c.meet.new.sys c.requires.take.partition c.meet.ensures.value c.requires.turns

pub go_on_alone-requires-clause-take : goal.go_on_alone-requires-clause-take
go_on_alone-requires-clause-take c =
    woken_takes c.args.p c.args.first c.args.sys.now c.meet.new.sys c.wake.new.sys c.requires.take c.requires.turns c.meet.ensures.value c.wake.ensures.value

pub returns-then-goes_on : goal.returns-then-goes_on
returns-then-goes_on c =
    work_went c.args.p c.args.first c.go_on_alone.result (sight_value c.args.seen) c.args.sys.now c.meet.new.sys c.wake.new.sys c.go_on_alone.new.sys c.go_on_alone.new.lines
    c.requires.take.partition c.requires.turns c.meet.ensures.value (sym c.goes_on.ensures ∙ c.if-goes_on.true) c.wake.ensures.value c.go_on_alone.ensures

pub returns-else-goes_on : goal.returns-else-goes_on
returns-else-goes_on c =
    lone_silent c.args.p c.stay.result _ (sight_value c.args.seen) _ c.args.sys.now c.meet.new.sys c.args.lines.now c.requires.empty
    (work_stays c.args.p c.args.first c.stay.result (sight_value c.args.seen) c.args.sys.now c.meet.new.sys c.requires.take.partition c.meet.ensures.value (sym c.goes_on.ensures ∙ c.if-goes_on.false) c.stay.ensures)
