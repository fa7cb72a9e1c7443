use Rattle.std.proofs.Common.{List, [], refl, subst, sym, true}
use Rattle.xm_report.specs.Report.{ReportLine}
use Rattle.sparc_step.specs.declared.outcome.Turn.TheVariants.{Call, Trap}
use Rattle.replay_tick.specs.lemmas.LoneSpanTerms.{DoesSpan}
use Rattle.replay_tick.specs.declared.span.LoneSpan.{LoneSpan}
use Rattle.replay_tick.proofs.SpanEndLemmas.{call_serves, turned_takes}
use Rattle.replay_tick.proofs.SpanLemmas.{steps_few, steps_room, steps_span, steps_turned, went_span}
use Rattle.replay_tick.proofs.span.execute_many.Goals as goal

pub count_on-requires-clause-clock : goal.count_on-requires-clause-clock
count_on-requires-clause-clock c =
    steps_room c.args.p c.args.most c.step_many-gone.result.went _ c.args.sys.now c.step_many-gone.new.self c.requires.can (steps_few _ _ _ _ _ _ _ c.step_many-gone.ensures.gone) c.step_many-gone.ensures.others refl

pub trap_last-requires-clause-take : goal.trap_last-requires-clause-take
trap_last-requires-clause-take c =
    let gone = rw c.in-Trap.is at c.step_many-gone.ensures.gone in
    turned_takes c.args.p (Trap c.in-Trap.tt) c.step_many-gone.result.pc _ c.pass_ticks.new.self
    (steps_turned c.keeps_facts_alone.ensures.law c.args.p c.args.most c.step_many-gone.result.went c.step_many-gone.result.pc c.args.sys.now c.step_many-gone.new.self c.count_on.new.sys
    c.requires.can c.requires.ready c.requires.undelivered c.requires.timers c.step_many-gone.ensures.went c.step_many-gone.ensures.at c.step_many-gone.ensures.others c.count_on.ensures
    (Trap c.in-Trap.tt) c.pass_ticks.new.self gone.0 gone.1 gone.2 gone.3 c.pass_ticks.ensures.value)

pub call_last-requires-clause-take : goal.call_last-requires-clause-take
call_last-requires-clause-take c =
    let gone = rw c.in-Call.is at c.step_many-gone.ensures.gone in
    turned_takes c.args.p Call c.step_many-gone.result.pc _ c.pass_ticks-in-Call.new.self
    (steps_turned c.keeps_facts_alone.ensures.law c.args.p c.args.most c.step_many-gone.result.went c.step_many-gone.result.pc c.args.sys.now c.step_many-gone.new.self c.count_on.new.sys
    c.requires.can c.requires.ready c.requires.undelivered c.requires.timers c.step_many-gone.ensures.went c.step_many-gone.ensures.at c.step_many-gone.ensures.others c.count_on.ensures
    Call c.pass_ticks-in-Call.new.self gone.0 gone.1 gone.2 gone.3 c.pass_ticks-in-Call.ensures.value)

pub call_last-requires-clause-next : goal.call_last-requires-clause-next
call_last-requires-clause-next c =
    let gone = rw c.in-Call.is at c.step_many-gone.ensures.gone in
    call_serves c.args.p c.step_many-gone.result.pc _ c.pass_ticks-in-Call.new.self
    (steps_turned c.keeps_facts_alone.ensures.law c.args.p c.args.most c.step_many-gone.result.went c.step_many-gone.result.pc c.args.sys.now c.step_many-gone.new.self c.count_on.new.sys
    c.requires.can c.requires.ready c.requires.undelivered c.requires.timers c.step_many-gone.ensures.went c.step_many-gone.ensures.at c.step_many-gone.ensures.others c.count_on.ensures
    Call c.pass_ticks-in-Call.new.self gone.0 gone.1 gone.2 gone.3 c.pass_ticks-in-Call.ensures.value)

pub returns-in-Went : goal.returns-in-Went
returns-in-Went c =
    let gone = rw c.in-Went.is at c.step_many-gone.ensures.gone in
    subst (λ (got : List ReportLine). DoesSpan c.quiet_span.result c.args.p true c.args.most c.args.sys.now c.end_ticks.new.self got) (sym c.requires.empty)
    (subst (λ (done : LoneSpan). DoesSpan done c.args.p true c.args.most c.args.sys.now c.end_ticks.new.self []) (sym c.quiet_span.ensures)
    (went_span c.keeps_facts_alone.ensures.law c.args.p c.args.most c.step_many-gone.result.went c.step_many-gone.result.pc c.args.sys.now c.step_many-gone.new.self c.count_on.new.sys
    c.requires.can c.requires.ready c.requires.undelivered c.requires.timers c.step_many-gone.ensures.went c.step_many-gone.ensures.at c.step_many-gone.ensures.others c.count_on.ensures
    c.end_ticks.new.self gone.0 gone.1 gone.2 c.end_ticks.ensures.value c.end_ticks.ensures.kept))

pub returns-in-Trap : goal.returns-in-Trap
returns-in-Trap c =
    let gone = rw c.in-Trap.is at c.step_many-gone.ensures.gone in
    steps_span c.keeps_facts_alone.ensures.law c.args.p c.args.most c.step_many-gone.result.went c.step_many-gone.result.pc c.args.sys.now c.step_many-gone.new.self c.count_on.new.sys
    c.requires.can c.requires.ready c.requires.undelivered c.requires.timers c.step_many-gone.ensures.went c.step_many-gone.ensures.at c.step_many-gone.ensures.others c.count_on.ensures
    (Trap c.in-Trap.tt) c.pass_ticks.new.self gone.0 gone.1 gone.2 gone.3 c.pass_ticks.ensures.value c.trap_last.result c.trap_last.new.sys c.trap_last.new.lines
    (c.trap_last.ensures _
    (steps_turned c.keeps_facts_alone.ensures.law c.args.p c.args.most c.step_many-gone.result.went c.step_many-gone.result.pc c.args.sys.now c.step_many-gone.new.self c.count_on.new.sys
    c.requires.can c.requires.ready c.requires.undelivered c.requires.timers c.step_many-gone.ensures.went c.step_many-gone.ensures.at c.step_many-gone.ensures.others c.count_on.ensures
    (Trap c.in-Trap.tt) c.pass_ticks.new.self gone.0 gone.1 gone.2 gone.3 c.pass_ticks.ensures.value))

pub returns-in-Call : goal.returns-in-Call
returns-in-Call c =
    let gone = rw c.in-Call.is at c.step_many-gone.ensures.gone in
    steps_span c.keeps_facts_alone.ensures.law c.args.p c.args.most c.step_many-gone.result.went c.step_many-gone.result.pc c.args.sys.now c.step_many-gone.new.self c.count_on.new.sys
    c.requires.can c.requires.ready c.requires.undelivered c.requires.timers c.step_many-gone.ensures.went c.step_many-gone.ensures.at c.step_many-gone.ensures.others c.count_on.ensures
    Call c.pass_ticks-in-Call.new.self gone.0 gone.1 gone.2 gone.3 c.pass_ticks-in-Call.ensures.value c.call_last.result c.call_last.new.sys c.call_last.new.lines
    (c.call_last.ensures _
    (steps_turned c.keeps_facts_alone.ensures.law c.args.p c.args.most c.step_many-gone.result.went c.step_many-gone.result.pc c.args.sys.now c.step_many-gone.new.self c.count_on.new.sys
    c.requires.can c.requires.ready c.requires.undelivered c.requires.timers c.step_many-gone.ensures.went c.step_many-gone.ensures.at c.step_many-gone.ensures.others c.count_on.ensures
    Call c.pass_ticks-in-Call.new.self gone.0 gone.1 gone.2 gone.3 c.pass_ticks-in-Call.ensures.value))
