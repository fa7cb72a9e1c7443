use Rattle.std.proofs.Common.{refl, sym, ◌∙◌}
use Rattle.sparc_step.specs.declared.outcome.Turn.TheVariants.{Call, Trap, Went}
use Rattle.tick_steps.specs.CueValues.{sight_value}
use Rattle.replay_tick.proofs.LoneWorkLemmas.{call_as, lone_silent, observed_as, trap_as, turned_work}
use Rattle.replay_tick.proofs.work.execute_alone.Goals as goal

pub returns-in-Went : goal.returns-in-Went
returns-in-Went c =
    turned_work c.args.p Went c.go_alone.result _ (sight_value c.args.seen) _ c.args.sys.now c.step_core.new.self c.go_alone.new.sys c.args.lines.now c.requires.take.partition
    (sym c.in-Went.is ∙ c.step_core.ensures.turn) c.step_core.ensures.value refl refl
    (lone_silent c.args.p c.go_alone.result _ (sight_value c.args.seen) _ c.step_core.new.self c.go_alone.new.sys c.args.lines.now c.requires.empty c.go_alone.ensures)

pub returns-in-Trap : goal.returns-in-Trap
returns-in-Trap c =
    turned_work c.args.p (Trap c.in-Trap.tt) c.trap_alone.result _ (sight_value c.args.seen) _ c.args.sys.now c.step_core.new.self c.trap_alone.new.sys c.trap_alone.new.lines c.requires.take.partition
    (sym c.in-Trap.is ∙ c.step_core.ensures.turn) c.step_core.ensures.value refl
    (trap_as c.args.p c.in-Trap.tt c.program_counter-pc.result _ (sight_value c.args.seen) c.args.sys.now c.step_core.new.self c.step_core.ensures.value c.program_counter-pc.ensures.value)
    c.trap_alone.ensures

pub returns-in-Call : goal.returns-in-Call
returns-in-Call c =
    turned_work c.args.p Call c.call_alone.result _ (sight_value c.args.seen) _ c.args.sys.now c.step_core.new.self c.call_alone.new.sys c.call_alone.new.lines c.requires.take.partition
    (sym c.in-Call.is ∙ c.step_core.ensures.turn) c.step_core.ensures.value
    (observed_as c.args.p _ c.args.sys.now c.step_core.new.self c.step_core.ensures.value)
    (call_as c.args.p c.program_counter-pc.result _ _ (sight_value c.args.seen) c.args.sys.now c.step_core.new.self c.step_core.ensures.value c.program_counter-pc.ensures.value (c.step_core.ensures.called c.in-Call.is).0)
    c.call_alone.ensures
