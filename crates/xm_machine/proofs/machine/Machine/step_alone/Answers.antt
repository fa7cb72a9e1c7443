use Rattle.std.proofs.Common.{◌<◌, ℕ, subst, sym}
use Rattle.tick_steps.specs.CueValues.{cue_value}
use Rattle.xm_machine.proofs.LoneStepLemmas.{are_few, can_be_emitted, printed_cause, printed_said, printed_steps}
use Rattle.xm_machine.proofs.SaidLemmas.{tick_kept}
use Rattle.xm_machine.proofs.machine.Machine.step_alone.Goals as goal

pub keep-requires-clause-partition : goal.keep-requires-clause-partition
keep-requires-clause-partition g c =
    subst (λ (n : ℕ). c.args.p < n) (sym c.tick_alone-done.ensures.system.parts) (rw (← c.self.view_is) at c.requires.partition)

pub keep-requires-clause-readable : goal.keep-requires-clause-readable
keep-requires-clause-readable g c =
    can_be_emitted c.tick_alone-done.result c.args.p (cue_value c.args.cue.now) c.self.inside.sys.machine c.tick_alone-done.new.sys.machine c.tick_alone-done.new.lines c.tick_alone-done.ensures.tick

pub print_alone-requires-clause-partition : goal.print_alone-requires-clause-partition
print_alone-requires-clause-partition g c =
    subst (λ (n : ℕ). c.args.p < n) (sym c.tick_alone-done.ensures.system.parts) (rw (← c.self.view_is) at c.requires.partition)

pub print_alone-requires-clause-readable : goal.print_alone-requires-clause-readable
print_alone-requires-clause-readable g c =
    can_be_emitted c.tick_alone-done.result c.args.p (cue_value c.args.cue.now) c.self.inside.sys.machine c.tick_alone-done.new.sys.machine c.tick_alone-done.new.lines c.tick_alone-done.ensures.tick

pub print_alone-requires-clause-few : goal.print_alone-requires-clause-few
print_alone-requires-clause-few g c =
    are_few c.tick_alone-done.result c.args.p (cue_value c.args.cue.now) c.self.inside.sys.machine c.tick_alone-done.new.sys.machine c.tick_alone-done.new.lines c.tick_alone-done.ensures.tick

pub returns-clause-step : goal.returns-clause-step
returns-clause-step g c =
    rw (← c.self.view_is)
    (printed_steps c.tick_alone-done.result c.ticks-n.result c.args.p (cue_value c.args.cue.now) c.self.inside.sys.machine c.tick_alone-done.new.sys.machine c.tick_alone-done.new.lines c.print_alone.result
    (g.O.Sink.got c.args.out.now) (g.O.Sink.got c.print_alone.new.out) (g.O.Sink.faults c.args.out.now) (g.O.Sink.faults c.print_alone.new.out) (record { places = _; marks = _ }) (record { places = _; marks = _ })
    c.ticks-n.ensures.value c.tick_alone-done.ensures.system.system c.tick_alone-done.ensures.tick c.print_alone.ensures.printed)

pub returns-clause-cause : goal.returns-clause-cause
returns-clause-cause g c =
    printed_cause c.tick_alone-done.result c.ticks-n.result c.args.p (cue_value c.args.cue.now) c.self.inside.sys.machine c.tick_alone-done.new.sys.machine c.tick_alone-done.new.lines c.print_alone.result
    (g.O.Sink.got c.args.out.now) (g.O.Sink.got c.print_alone.new.out) (g.O.Sink.faults c.args.out.now) (g.O.Sink.faults c.print_alone.new.out) (record { places = _; marks = _ }) (record { places = _; marks = _ })
    c.ticks-n.ensures.value c.tick_alone-done.ensures.system.system c.tick_alone-done.ensures.tick c.print_alone.ensures.printed

pub returns-clause-heard : goal.returns-clause-heard
returns-clause-heard g c =
    rw (← c.self.view_is)
    (printed_said c.tick_alone-done.result c.ticks-n.result c.args.p (cue_value c.args.cue.now) c.self.inside.sys.machine c.tick_alone-done.new.sys.machine c.tick_alone-done.new.lines c.print_alone.result
    (g.O.Sink.got c.args.out.now) (g.O.Sink.got c.print_alone.new.out) (g.O.Sink.faults c.args.out.now) (g.O.Sink.faults c.print_alone.new.out) (record { places = _; marks = _ }) (record { places = _; marks = _ })
    c.ticks-n.ensures.value c.tick_alone-done.ensures.system.system c.tick_alone-done.ensures.tick c.print_alone.ensures.printed)

pub returns-clause-said : goal.returns-clause-said
returns-clause-said g c =
    rw (← c.self.view_is)
    (tick_kept c.tick_alone-done.result c.ticks-n.result c.args.p (cue_value c.args.cue.now) c.self.inside.sys.machine c.tick_alone-done.new.sys.machine c.tick_alone-done.new.lines c.print_alone.result
    (g.O.Sink.got c.args.out.now) (g.O.Sink.got c.print_alone.new.out) (g.O.Sink.faults c.args.out.now) (g.O.Sink.faults c.print_alone.new.out) (record { places = _; marks = _ }) (record { places = _; marks = _ })
    c.keep.new.self (rw (← c.self.view_is) at c.requires.running) c.as_slice.ensures.other c.tick_alone-done.ensures.tick c.print_alone.ensures.printed c.keep.ensures)
