use Rattle.xm_machine.proofs.CuedLemmas.{keeps_so}
use Rattle.xm_machine.proofs.GoingLemmas.{cause_so, few_so, step_so}
use Rattle.xm_machine.proofs.HeardLemmas.{span_heard}
use Rattle.xm_machine.proofs.SpanLemmas.{bare_so}
use Rattle.tick_steps.specs.lemmas.KeptLemmas.{kept_ticks}
use Rattle.xm_machine.proofs.machine.Machine.step.Goals as goal

pub invariant_of-self : goal.invariant_of-self
invariant_of-self g c =
    let most = rw (← c.self.view_is) at c.requires.most in
    let done = c.run-span.ensures.done in
    kept_ticks c.keeps_facts.ensures.ticks c.keeps_hardware_clock.ensures.ticks c.keeps_numbers.ensures.ticks c.keeps_plans.ensures.ticks
    c.self.inside.sys c.run-span.new.sys c.run-span.result.ticks c.args.most c.self.invariant done.state done.within most

pub returns-clause-step : goal.returns-clause-step
returns-clause-step g c =
    let printed = rw c.ticks-begun.ensures.value at c.print_tick.ensures.printed in
    rw (c.stepped_by.ensures, ← c.self.view_is) (step_so c.print_tick.result c.ends_stretch-ends.result c.run-span.result c.args.most c.self.inside.sys c.run-span.new.sys c.run-span.new.lines
    (g.O.Sink.got c.args.out.now) (g.O.Sink.got c.print_tick.new.out) c.run-span.ensures.done c.ends_stretch-ends.ensures printed)

pub returns-clause-few : goal.returns-clause-few
returns-clause-few g c = rw (c.stepped_by.ensures) (few_so c.print_tick.result c.run-span.result.ticks c.ends_stretch-ends.result c.print_tick.ensures.few)

pub returns-clause-cause : goal.returns-clause-cause
returns-clause-cause g c =
    rw (c.stepped_by.ensures) (cause_so c.print_tick.result c.run-span.result.ticks c.ends_stretch-ends.result (g.O.Sink.faults c.args.out.now) (g.O.Sink.faults c.print_tick.new.out) c.print_tick.ensures.cause)

pub returns-clause-counters : goal.returns-clause-counters
returns-clause-counters g c =
    let most = rw (← c.self.view_is) at c.requires.most in
    let done = c.run-span.ensures.done in
    (kept_ticks c.keeps_facts.ensures.ticks c.keeps_hardware_clock.ensures.ticks c.keeps_numbers.ensures.ticks c.keeps_plans.ensures.ticks
    c.self.inside.sys c.run-span.new.sys c.run-span.result.ticks c.args.most c.self.invariant done.state done.within most).counted

pub returns-clause-heard : goal.returns-clause-heard
returns-clause-heard g c =
    let heard = rw c.ticks-begun.ensures.value at c.print_tick.ensures.heard in
    rw (← c.self.view_is) (span_heard c.keeps_numbers.ensures.runs c.run-span.result c.args.most c.self.inside.sys c.run-span.new.sys c.run-span.new.lines
    (record { places = _; marks = _ }) (record { places = _; marks = _ }) c.run-span.ensures.done heard)

pub returns-clause-kept : goal.returns-clause-kept
returns-clause-kept g c =
    rw (c.stepped_by.ensures, ← c.self.view_is) (keeps_so c.print_tick.result c.ends_stretch-ends.result c.run-span.result c.args.most c.self.inside.sys c.run-span.new.sys c.run-span.new.lines c.self.inside.kept c.run-span.new.self c.self.inside.said c.self.inside.said c.run-span.ensures.done
    c.run-span.ensures.kept)

pub returns-clause-bare : goal.returns-clause-bare
returns-clause-bare g c =
    rw (c.stepped_by.ensures, ← c.self.view_is) (bare_so c.print_tick.result c.run-span.result.ticks c.ends_stretch-ends.result c.self.inside.sys.machine c.run-span.ensures.bare)
