use Rattle.std.proofs.Common.{Option, arith, subst}
use Rattle.cue_scripts.specs.Values.{event_value}
use Rattle.replay_tick.specs.lemmas.LoneSpanTerms.{HasWorked}
use Rattle.replay_tick.specs.declared.work.LoneWork.{LoneWork}
use Rattle.replay_tick.proofs.SpanEndLemmas.{work_ended, work_missed}
use Rattle.replay_tick.proofs.span.end_work.Goals as goal

pub returns-in-Some : goal.returns-in-Some
returns-in-Some c = λ before is.
    let can = rw c.in-Some.is at c.requires in
    work_ended c.working_ticks.ensures.law c.takes_cues.ensures.working c.passes_keep.ensures.law c.acts_within_bounds.ensures.law c.keeps_facts_alone.ensures.law
    c.args.p c.in-Some.work (event_value c.end_turn-event.result) before c.args.sys.now c.end_turn-event.new.sys c.args.lines.now c.end_turn-event.new.lines c.note_if.result c.is_same_event.result
    (subst (λ (o : Option LoneWork). HasWorked c.args.p o before c.args.sys.now c.args.lines.now) c.in-Some.is is)
    c.end_turn-event.ensures.event c.end_turn-event.ensures.state c.end_turn-event.ensures.lines c.is_same_event.ensures c.note_if.ensures (omega (arith, can.room, c.end_turn-event.ensures.few))

pub returns-in-None : goal.returns-in-None
returns-in-None c = λ before is.
    work_missed c.takes_cues.ensures.working c.acts_within_bounds.ensures.law c.args.p before c.args.sys.now c.args.lines.now c.args.lines.now
    (subst (λ (o : Option LoneWork). HasWorked c.args.p o before c.args.sys.now c.args.lines.now) c.in-None.is is)
