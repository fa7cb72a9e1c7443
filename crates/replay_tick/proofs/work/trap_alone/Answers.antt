use Rattle.std.proofs.Common.{refl, sym, ◌∙◌, arith}
use Rattle.system_state.specs.declared.served.Note.TheVariants as note
use Rattle.replay_tick.proofs.LoneWorkLemmas.{lone_done, undone_same}
use Rattle.replay_tick.proofs.work.trap_alone.Goals as goal

pub returns-then-is_unseen : goal.returns-then-is_unseen
returns-then-is_unseen c = rw c.silent.ensures (
  sym c.is_unseen.ensures ∙ c.if-is_unseen.true,
  lone_done c.args.p _ note.Nothing c.meet_trap-reach.result c.args.sys.now c.meet_trap-reach.new.sys c.meet_trap-reach.new.lines c.meet_trap-reach.ensures.worked tt (omega (arith, c.meet_trap-reach.ensures.few)),
)

pub returns-else-is_unseen : goal.returns-else-is_unseen
returns-else-is_unseen c = (sym c.is_unseen.ensures ∙ c.if-is_unseen.false, undone_same c.args.p c.args.sys.now c.args.sys.now refl)
