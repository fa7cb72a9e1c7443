use Rattle.std.proofs.Common.{◌+◌, ◌-◌, List, [], ap, false, refl, subst, sym, true, ◌∙◌}
use Rattle.std.proofs.lemmas.List.{set-get_or}
use Rattle.cyclic_plans.specs.PlanClock.{ended}
use Rattle.machine_model.specs.Machine.{booted_part}
use Rattle.machine_model.specs.Partition.{PartitionState}
use Rattle.system_state.specs.State.{with_machine}
use Rattle.replay_tick.specs.lemmas.LoneSpanTerms.{DoesSpan, NoneDueAfter}
use Rattle.span_model.specs.Passes.{part_at}
use Rattle.replay_tick.specs.declared.span.LoneSpan.{LoneSpan}
use Rattle.replay_tick.proofs.SpanLemmas.{idle_span}
use Rattle.replay_tick.proofs.span.stay_many.Goals as goal

pub returns : goal.returns
returns c =
    let sys = c.args.sys.now in
    let ticks = c.ticks_undisturbed-ticks.result in
    let none : NoneDueAfter sys.machine.time 0 false (part_at c.args.p sys.machine).clocks = record { hardware = c.requires.timers.hardware; execution = refl } in
    subst (λ (done : LoneSpan). DoesSpan done c.args.p true c.args.most sys c.end_ticks.new.self []) (sym c.quiet_span.ensures)
    (idle_span c.keeps_facts_alone.ensures.law c.args.p c.args.most ticks sys c.end_ticks.new.self c.requires.can (c.ticks_undisturbed-ticks.ensures.some none c.requires.can.some)
    c.ticks_undisturbed-ticks.ensures.within c.requires.turns c.requires.stays c.requires.timers c.ticks_undisturbed-ticks.ensures.none
    (c.end_ticks.ensures.value ∙ ap (λ (parts : List PartitionState). with_machine (record sys.machine {
      parts = parts;
      clock = ended sys.machine.system.conf sys.machine.clock (sys.machine.time + ticks - 1);
      time = sys.machine.time + ticks;
      ticks = sys.machine.ticks + ticks;
    }) sys) (sym (set-get_or sys.machine.parts c.args.p (booted_part sys.machine.system c.args.p))))
    (c.end_ticks.ensures.kept c.requires.can.machine.clocked.asked))
