use Rattle.std.proofs.Common.{◌<◌, ◌-◌, ◌∙◌, ℕ, arith, replicate, subst, sym}
use Rattle.cue_scripts.specs.Entries.{bare_cue}
use Rattle.xm_machine.proofs.LoneStepLemmas.{are_few, can_be_emitted, printed_cause, printed_said, printed_steps}
use Rattle.xm_machine.proofs.SaidLemmas.{span_kept}
use Rattle.xm_machine.proofs.machine.Machine.span_alone.Goals as goal

pub keep-requires-clause-partition : goal.keep-requires-clause-partition
keep-requires-clause-partition g c =
    subst (λ (n : ℕ). c.args.p < n) (sym c.span_alone-span.ensures.system.parts) (rw (← c.self.view_is) at c.requires.partition)

pub keep-requires-clause-readable : goal.keep-requires-clause-readable
keep-requires-clause-readable g c =
    can_be_emitted c.span_alone-span.result.emitted c.args.p (bare_cue c.args.own) c.span_alone-span.ensures.span.before c.span_alone-span.new.sys.machine c.span_alone-span.new.lines c.span_alone-span.ensures.span.last

pub print_alone-ended-requires-clause-partition : goal.print_alone-ended-requires-clause-partition
print_alone-ended-requires-clause-partition g c =
    subst (λ (n : ℕ). c.args.p < n) (sym c.span_alone-span.ensures.system.parts) (rw (← c.self.view_is) at c.requires.partition)

pub print_alone-ended-requires-clause-readable : goal.print_alone-ended-requires-clause-readable
print_alone-ended-requires-clause-readable g c =
    can_be_emitted c.span_alone-span.result.emitted c.args.p (bare_cue c.args.own) c.span_alone-span.ensures.span.before c.span_alone-span.new.sys.machine c.span_alone-span.new.lines c.span_alone-span.ensures.span.last

pub print_alone-ended-requires-clause-few : goal.print_alone-ended-requires-clause-few
print_alone-ended-requires-clause-few g c =
    are_few c.span_alone-span.result.emitted c.args.p (bare_cue c.args.own) c.span_alone-span.ensures.span.before c.span_alone-span.new.sys.machine c.span_alone-span.new.lines c.span_alone-span.ensures.span.last

pub returns-clause-span : goal.returns-clause-span
returns-clause-span g c =
    let span = c.span_alone-span.ensures.span in
    rw (← c.self.view_is) (record {
      before = span.before;
      silent = span.silent;
      step = printed_steps c.span_alone-span.result.emitted _ c.args.p (bare_cue c.args.own) span.before c.span_alone-span.new.sys.machine c.span_alone-span.new.lines c.print_alone-ended.result
          (g.O.Sink.got c.args.out.now) (g.O.Sink.got c.print_alone-ended.new.out) (g.O.Sink.faults c.args.out.now) (g.O.Sink.faults c.print_alone-ended.new.out) (record { places = _; marks = _ }) (record { places = _; marks = _ })
          (omega (arith, span.counted, c.ticks-begun.ensures.value, c.span_alone-span.ensures.some)) (c.span_alone-span.ensures.system.system ∙ sym span.silent.system.system) span.last c.print_alone-ended.ensures.printed;
      heard = printed_said c.span_alone-span.result.emitted _ c.args.p (bare_cue c.args.own) span.before c.span_alone-span.new.sys.machine c.span_alone-span.new.lines c.print_alone-ended.result
          (g.O.Sink.got c.args.out.now) (g.O.Sink.got c.print_alone-ended.new.out) (g.O.Sink.faults c.args.out.now) (g.O.Sink.faults c.print_alone-ended.new.out) (record { places = _; marks = _ }) (record { places = _; marks = _ })
          (omega (arith, span.counted, c.ticks-begun.ensures.value, c.span_alone-span.ensures.some)) (c.span_alone-span.ensures.system.system ∙ sym span.silent.system.system) span.last c.print_alone-ended.ensures.printed;
    })

pub returns-clause-cause : goal.returns-clause-cause
returns-clause-cause g c =
    let span = c.span_alone-span.ensures.span in
    printed_cause c.span_alone-span.result.emitted _ c.args.p (bare_cue c.args.own) span.before c.span_alone-span.new.sys.machine c.span_alone-span.new.lines c.print_alone-ended.result
    (g.O.Sink.got c.args.out.now) (g.O.Sink.got c.print_alone-ended.new.out) (g.O.Sink.faults c.args.out.now) (g.O.Sink.faults c.print_alone-ended.new.out) (record { places = _; marks = _ }) (record { places = _; marks = _ })
    (omega (arith, span.counted, c.ticks-begun.ensures.value, c.span_alone-span.ensures.some)) (c.span_alone-span.ensures.system.system ∙ sym span.silent.system.system) span.last c.print_alone-ended.ensures.printed

pub returns-clause-said : goal.returns-clause-said
returns-clause-said g c =
    let span = c.span_alone-span.ensures.span in
    rw (← c.self.view_is)
    (span_kept c.span_alone-span.result.emitted _ c.args.p (replicate (c.span_alone-span.result.ticks - 1) (bare_cue c.args.own)) (bare_cue c.args.own) c.self.inside.sys.machine span.before c.span_alone-span.new.sys.machine
    c.span_alone-span.new.lines c.print_alone-ended.result
    (g.O.Sink.got c.args.out.now) (g.O.Sink.got c.print_alone-ended.new.out) (g.O.Sink.faults c.args.out.now) (g.O.Sink.faults c.print_alone-ended.new.out) (record { places = _; marks = _ }) (record { places = _; marks = _ })
    c.keep.new.self c.as_slice.ensures.other span.silent span.last c.print_alone-ended.ensures.printed c.keep.ensures)
