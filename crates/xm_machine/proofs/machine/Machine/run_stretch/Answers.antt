use Rattle.std.proofs.Common.{◌∙◌, ap, arith, refl, subst, ℕ}
use Rattle.std.proofs.Math.Nat.{min-le_left}
use Rattle.std.proofs.lemmas.Result.{err_from_is_err_and}
use Rattle.cyclic_plans.specs.PlanClock.{ticks_left}
use Rattle.xm_machine.specs.lemmas.CuesTerms.{KeepsLastTick}
use Rattle.tick_steps.specs.Machine.{IsCounted}
use Rattle.xm_machine.specs.Machine.{Meaning}
use Rattle.xm_machine.specs.lemmas.StretchTerms.{AreStepped}
use Rattle.xm_machine.specs.Stretch.{IsStretchCut}
use Rattle.xm_machine.proofs.HeardLemmas.{heard_on, none_heard}
use Rattle.xm_machine.proofs.StretchLemmas.{left_is, some_left, stretch_begins, stretch_counted, stretch_cut, stretch_cut_kept, stretch_on, stretch_out, stretch_runs}
use Rattle.xm_machine.proofs.machine.Machine.run_stretch.Goals as goal

pub loop-ends-init : goal.loop-ends-init
loop-ends-init g c = record {
  goes = stretch_begins c.min-left.result c.args.self.now (g.O.Sink.got c.args.out.now);
  faults = refl;
  heard = none_heard c.keeps_numbers.ensures.runs c.args.self.now.state (record { places = _; marks = _ });
  counted = subst (λ (m : Meaning). IsCounted m.state) c.self.view_is c.self.invariant.counted;
}

pub step-requires-clause-running : goal.step-requires-clause-running
step-requires-clause-running g c =
    stretch_runs c.loop-ends.ticks c.loop-ends.lines c.loop-ends.ends c.min-left.result c.args.self.now c.loop-ends.self (g.O.Sink.got c.args.out.now) (g.O.Sink.got c.loop-ends.out)
    c.loop-ends.invariant.goes c.loop-ends-test.true c.requires.running

pub loop-ends-preserved : goal.loop-ends-preserved
loop-ends-preserved g c =
    let are = c.in_ok-next.ensures.step in
    let goes = c.loop-ends.invariant.goes in
    record {
      goes = stretch_on c.loop-ends.ticks c.loop-ends.lines c.loop-ends.ends c.min-left.result c.in_ok-next.next c.args.self.now c.loop-ends.self c.step.new.self
          (g.O.Sink.got c.args.out.now) (g.O.Sink.got c.loop-ends.out) (g.O.Sink.got c.step.new.out) goes c.loop-ends-test.true are c.in_ok-next.ensures.few c.in_ok-next.ensures.kept;
      faults = c.in_ok-next.ensures.cause ∙ c.loop-ends.invariant.faults;
      heard = heard_on c.keeps_numbers.ensures.runs c.args.self.now.state c.loop-ends.self.state c.step.new.self.state c.loop-ends.ticks are.step.done
          (record { places = _; marks = _ }) (record { places = _; marks = _ }) (record { places = _; marks = _ })
          goes.are.state are.step.are.state c.loop-ends.invariant.heard c.in_ok-next.ensures.heard;
      counted = c.in_ok-next.ensures.counters;
    }

pub returns-in_err-next-clause-steps : goal.returns-in_err-next-clause-steps
returns-in_err-next-clause-steps g c =
    let p = err_from_is_err_and c.from_residual.result c.from_residual.ensures.1 in
    let left = left_is c.args.most c.min-left.result c.place_of-place.result.left c.args.self.now.state c.min-left.ensures
    (c.place_of-place.ensures.left ∙ ap (λ (m : Meaning). ticks_left m.state.system.conf m.state.clock m.state.time) c.self.view_is) in
    rw (p.1) (subst (λ (most : ℕ). IsStretchCut most c.args.self.now.state c.step.new.self.state (g.O.Sink.got c.args.out.now) (g.O.Sink.got c.step.new.out)) left
    (stretch_cut c.loop-ends.ticks c.loop-ends.lines c.loop-ends.ends c.min-left.result c.args.self.now c.loop-ends.self c.step.new.self
    (g.O.Sink.got c.args.out.now) (g.O.Sink.got c.loop-ends.out) (g.O.Sink.got c.step.new.out) c.loop-ends.invariant.goes c.loop-ends-test.true c.in_err-next.ensures.step))

pub returns-in_err-next-clause-kept : goal.returns-in_err-next-clause-kept
returns-in_err-next-clause-kept g c =
    let p = err_from_is_err_and c.from_residual.result c.from_residual.ensures.1 in
    let left = left_is c.args.most c.min-left.result c.place_of-place.result.left c.args.self.now.state c.min-left.ensures
    (c.place_of-place.ensures.left ∙ ap (λ (m : Meaning). ticks_left m.state.system.conf m.state.clock m.state.time) c.self.view_is) in
    rw (p.1) (subst (λ (most : ℕ). KeepsLastTick most c.args.self.now c.step.new.self) left
    (stretch_cut_kept c.loop-ends.ticks c.loop-ends.lines c.loop-ends.ends c.min-left.result c.args.self.now c.loop-ends.self c.step.new.self
    (g.O.Sink.got c.args.out.now) (g.O.Sink.got c.loop-ends.out) c.loop-ends.invariant.goes c.in_err-next.ensures.kept))

pub returns-in_err-next-clause-heard : goal.returns-in_err-next-clause-heard
returns-in_err-next-clause-heard g c =
    let goes = c.loop-ends.invariant.goes in
    let next = c.in_err-next.ensures.step in
    heard_on c.keeps_numbers.ensures.runs c.args.self.now.state c.loop-ends.self.state c.step.new.self.state c.loop-ends.ticks next.cut.done
    (record { places = _; marks = _ }) (record { places = _; marks = _ }) (record { places = _; marks = _ })
    goes.are.state next.cut.are.state c.loop-ends.invariant.heard c.in_err-next.ensures.heard

pub step-requires-clause-most : goal.step-requires-clause-most
step-requires-clause-most g c =
    let goes = c.loop-ends.invariant.goes in
    let runs = stretch_runs c.loop-ends.ticks c.loop-ends.lines c.loop-ends.ends c.min-left.result c.args.self.now c.loop-ends.self (g.O.Sink.got c.args.out.now) (g.O.Sink.got c.loop-ends.out)
    goes c.loop-ends-test.true c.requires.running in
    omega (
      arith,
      stretch_counted c.loop-ends.ticks c.loop-ends.lines c.loop-ends.ends c.min-left.result c.args.self.now c.loop-ends.self (g.O.Sink.got c.args.out.now) (g.O.Sink.got c.loop-ends.out) goes runs,
      goes.within,
      c.requires.most,
      c.min-left.ensures,
      min-le_left c.args.most c.place_of-place.result.left,
    )

pub returns-after-loop-ends-clause-steps : goal.returns-after-loop-ends-clause-steps
returns-after-loop-ends-clause-steps g c =
    let goes = c.loop-ends.invariant.goes in
    let left = left_is c.args.most c.min-left.result c.place_of-place.result.left c.args.self.now.state c.min-left.ensures
    (c.place_of-place.ensures.left ∙ ap (λ (m : Meaning). ticks_left m.state.system.conf m.state.clock m.state.time) c.self.view_is) in
    subst (λ (most : ℕ). AreStepped (record { ticks = c.loop-ends.ticks; lines = c.loop-ends.lines; ends = c.loop-ends.ends }) most c.args.self.now.state c.loop-ends.self.state (g.O.Sink.got c.args.out.now) (g.O.Sink.got c.loop-ends.out)) left
    (stretch_out c.loop-ends.ticks c.loop-ends.lines c.loop-ends.ends c.min-left.result c.args.self.now c.loop-ends.self (g.O.Sink.got c.args.out.now) (g.O.Sink.got c.loop-ends.out) goes (goes.some c.loop-ends-test.false))

pub returns-else-ticks-left-clause-steps : goal.returns-else-ticks-left-clause-steps
returns-else-ticks-left-clause-steps g c =
    let goes = c.loop-ends.invariant.goes in
    let left = left_is c.args.most c.min-left.result c.place_of-place.result.left c.args.self.now.state c.min-left.ensures
    (c.place_of-place.ensures.left ∙ ap (λ (m : Meaning). ticks_left m.state.system.conf m.state.clock m.state.time) c.self.view_is) in
    let some = some_left c.args.most c.min-left.result c.place_of-place.result.left c.min-left.ensures c.requires.some c.place_of-place.ensures.at.some in
    subst (λ (most : ℕ). AreStepped (record { ticks = c.loop-ends.ticks; lines = c.loop-ends.lines; ends = c.loop-ends.ends }) most c.args.self.now.state c.loop-ends.self.state (g.O.Sink.got c.args.out.now) (g.O.Sink.got c.loop-ends.out)) left
    (stretch_out c.loop-ends.ticks c.loop-ends.lines c.loop-ends.ends c.min-left.result c.args.self.now c.loop-ends.self (g.O.Sink.got c.args.out.now) (g.O.Sink.got c.loop-ends.out) goes (omega (arith, some, c.if-ticks-left.false)))

pub returns-else-ticks-left-clause-whole : goal.returns-else-ticks-left-clause-whole
returns-else-ticks-left-clause-whole g c =
    let left = left_is c.args.most c.min-left.result c.place_of-place.result.left c.args.self.now.state c.min-left.ensures
    (c.place_of-place.ensures.left ∙ ap (λ (m : Meaning). ticks_left m.state.system.conf m.state.clock m.state.time) c.self.view_is) in
    λ goes_on. omega (arith, left, c.if-ticks-left.false, c.loop-ends.invariant.goes.within)
