use Rattle.std.proofs.Common.{None, refl, sym, ◌∙◌, arith}
use Rattle.virt_traps.specs.Virtual.{due}
use Rattle.machine_model.specs.Machine.{copies}
use Rattle.machine_model.specs.View.{view_of}
use Rattle.span_model.specs.Passes.{part_at}
use Rattle.system_state.specs.declared.served.Note.TheVariants as note
use Rattle.tick_steps.specs.CueValues.{sight_value}
use Rattle.tick_steps.specs.declared.beyond.Beyond.TheVariants as beyond
use Rattle.replay_tick.proofs.LoneWorkLemmas.{delivers, lone_as, lone_done, undone_same}
use Rattle.replay_tick.proofs.work.go_on_alone.Goals as goal

pub returns-then-is_unseen : goal.returns-then-is_unseen
returns-then-is_unseen c =
    let g = c.args.sys.now.machine in
    let ps = part_at c.args.p g in
    let its = delivers (due ps.traps) ps.traps.enabled c.in-Some.n (view_of g.system c.args.p) (copies g c.args.p) g.time (sight_value c.args.seen) ps (sym c.interrupt.ensures.value ∙ c.in-Some.is) in
    lone_as c.args.p c.silent.result None _ (sight_value c.args.seen) _ _ c.args.sys.now c.take_interrupt.new.sys c.take_interrupt.new.lines its.0 its.1
    (rw c.silent.ensures (
      sym c.is_unseen.ensures ∙ c.if-is_unseen.true,
      lone_done c.args.p _ note.Nothing beyond.Nothing c.args.sys.now c.take_interrupt.new.sys c.take_interrupt.new.lines c.take_interrupt.ensures.worked tt (omega (arith, c.take_interrupt.ensures.few)),
    ))

pub returns-else-is_unseen : goal.returns-else-is_unseen
returns-else-is_unseen c =
    let g = c.args.sys.now.machine in
    let ps = part_at c.args.p g in
    let its = delivers (due ps.traps) ps.traps.enabled c.in-Some.n (view_of g.system c.args.p) (copies g c.args.p) g.time (sight_value c.args.seen) ps (sym c.interrupt.ensures.value ∙ c.in-Some.is) in
    lone_as c.args.p None None _ (sight_value c.args.seen) _ _ c.args.sys.now c.args.sys.now c.args.lines.now its.0 its.1
    (sym c.is_unseen.ensures ∙ c.if-is_unseen.false, undone_same c.args.p c.args.sys.now c.args.sys.now refl)
