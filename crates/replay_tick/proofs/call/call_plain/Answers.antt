use Rattle.std.proofs.Common.{refl, sym, ◌∙◌}
use Rattle.span_model.specs.Passes.{part_at}
use Rattle.tick_steps.specs.CueValues.{sight_value}
use Rattle.tick_steps.specs.declared.beyond.Beyond.TheVariants as beyond
use Rattle.system_state.specs.declared.served.Note.TheVariants as note
use Rattle.replay_tick.proofs.LoneWorkLemmas.{undone_same, unseeing_done}
use Rattle.replay_tick.proofs.call.call_plain.Goals as goal

pub returns-in-Some : goal.returns-in-Some
returns-in-Some c =
    let emitted = rw c.in-Some.is at c.call_reported.ensures in
    unseeing_done c.args.site.part c.args.site.pc (part_at c.args.site.part c.args.sys.now.machine).core.pc (sight_value c.args.seen) c.in-Some.emitted.0 c.in-Some.emitted.1 c.args.sys.now c.call_reported.new.sys c.call_reported.new.lines
    c.requires.unasked (sym c.is_unseen.ensures ∙ c.if-is_unseen.true) emitted.worked emitted.alone c.call_reported.ensures.few

pub returns-in-None : goal.returns-in-None
returns-in-None c =
    let emitted = rw c.in-None.is at c.call_reported.ensures in
    rw c.silent.ensures (unseeing_done c.args.site.part c.args.site.pc (part_at c.args.site.part c.args.sys.now.machine).core.pc (sight_value c.args.seen) note.Nothing beyond.Nothing c.args.sys.now c.call_reported.new.sys c.call_reported.new.lines
    c.requires.unasked (sym c.is_unseen.ensures ∙ c.if-is_unseen.true) emitted.worked emitted.alone c.call_reported.ensures.few)

pub returns-else-is_unseen : goal.returns-else-is_unseen
returns-else-is_unseen c = (sym c.is_unseen.ensures ∙ c.if-is_unseen.false, undone_same c.args.site.part c.args.sys.now c.args.sys.now refl)
