use Rattle.std.proofs.Common.{◌≡◌, ◌+◌, ◌-◌, ◌∙◌, ◌≤◌, false, true, ap, refl, sym, arith}
use Rattle.std.proofs.lemmas.Result.{err_from_is_err_and}
use Rattle.xm_machine.specs.Machine.{Meaning}
use Rattle.xm_machine.proofs.CuedLemmas.{keeps_counted, keeps_none, keeps_on, keeps_out, keeps_stepped}
use Rattle.xm_machine.proofs.GoingLemmas.{begins, comes_nearer, counted, goes_cut, goes_on, goes_out}
use Rattle.xm_machine.proofs.HeardLemmas.{heard_on, none_heard}
use Rattle.xm_machine.proofs.machine.Machine.run_ticks.Goals as goal

pub returns-in_err-next-clause-run : goal.returns-in_err-next-clause-run
returns-in_err-next-clause-run g c =
    let p = err_from_is_err_and c.from_residual.result c.from_residual.ensures.1 in
    let runs : c.loop-self.self.state.halted ≡ false = ap (λ (m : Meaning). m.state.halted) (sym c.self-in-loop-self.view_is) ∙ sym c.halted.ensures.value ∙ c.loop-self-test.true in
    let goes = c.loop-self.invariant.goes in
    let room : goes.done + (c.ticks.result + c.args.ticks - c.ticks-in-loop-self-2.result) ≤ c.args.ticks =
    omega (arith, counted c.loop-self.printed c.args.ticks c.args.self.now.state c.loop-self.self.state (g.O.Sink.got c.args.out.now) (g.O.Sink.got c.loop-self.out) goes runs, c.ticks.ensures.value, c.ticks-in-loop-self-2.ensures.value, goes.within, ap (λ (m : Meaning). m.state.ticks) c.self.view_is, ap (λ (m : Meaning). m.state.ticks) c.self-in-loop-self.view_is) in
    rw (p.1) (goes_cut c.args.self.now.state c.loop-self.self.state c.step.new.self.state c.loop-self.printed (c.ticks.result + c.args.ticks - c.ticks-in-loop-self-2.result) c.args.ticks
    (g.O.Sink.got c.args.out.now) (g.O.Sink.got c.loop-self.out) (g.O.Sink.got c.step.new.out) goes c.in_err-next.ensures.step.cut room)

pub loop-self-init : goal.loop-self-init
loop-self-init g c = record {
  goes = begins c.args.ticks c.args.self.now.state (g.O.Sink.got c.args.out.now);
  kept = keeps_none c.args.ticks c.args.self.now;
  faults = refl;
  heard = none_heard c.keeps_numbers.ensures.runs c.args.self.now.state (record { places = _; marks = _ });
}

pub loop-self-smaller : goal.loop-self-smaller
loop-self-smaller g c =
    let runs : c.loop-self.self.state.halted ≡ false = ap (λ (m : Meaning). m.state.halted) (sym c.self-in-loop-self.view_is) ∙ sym c.halted.ensures.value ∙ c.loop-self-test.true in
    let step = c.in_ok-next.ensures.step.step in
    comes_nearer (c.ticks.result + c.args.ticks) step.done c.loop-self.self.state c.step.new.self.state runs (omega (arith, c.if-ticks-end.true, c.ticks-in-loop-self.ensures.value, ap (λ (m : Meaning). m.state.ticks) c.self-in-loop-self.view_is)) step.some step.are.state

pub loop-self-preserved : goal.loop-self-preserved
loop-self-preserved g c =
    let are = c.in_ok-next.ensures.step in
    let runs : c.loop-self.self.state.halted ≡ false = ap (λ (m : Meaning). m.state.halted) (sym c.self-in-loop-self.view_is) ∙ sym c.halted.ensures.value ∙ c.loop-self-test.true in
    let goes = c.loop-self.invariant.goes in
    let room : goes.done + (c.ticks.result + c.args.ticks - c.ticks-in-loop-self-2.result) ≤ c.args.ticks =
    omega (arith, counted c.loop-self.printed c.args.ticks c.args.self.now.state c.loop-self.self.state (g.O.Sink.got c.args.out.now) (g.O.Sink.got c.loop-self.out) goes runs, c.ticks.ensures.value, c.ticks-in-loop-self-2.ensures.value, goes.within, ap (λ (m : Meaning). m.state.ticks) c.self.view_is, ap (λ (m : Meaning). m.state.ticks) c.self-in-loop-self.view_is) in
    let kept = c.loop-self.invariant.kept in
    let keeps_room : kept.done + (c.ticks.result + c.args.ticks - c.ticks-in-loop-self-2.result) ≤ c.args.ticks =
    omega (arith, keeps_counted c.args.ticks c.args.self.now c.loop-self.self kept runs, c.ticks.ensures.value, c.ticks-in-loop-self-2.ensures.value, kept.within, ap (λ (m : Meaning). m.state.ticks) c.self.view_is, ap (λ (m : Meaning). m.state.ticks) c.self-in-loop-self.view_is) in
    record {
      goes = goes_on c.args.self.now.state c.loop-self.self.state c.step.new.self.state c.loop-self.printed c.in_ok-next.next.lines (c.ticks.result + c.args.ticks - c.ticks-in-loop-self-2.result) c.args.ticks
          (g.O.Sink.got c.args.out.now) (g.O.Sink.got c.loop-self.out) (g.O.Sink.got c.step.new.out) goes are.step (omega (arith, c.in_ok-next.ensures.few, are.step.some)) room;
      kept = keeps_on c.args.ticks (c.ticks.result + c.args.ticks - c.ticks-in-loop-self-2.result) c.args.self.now c.loop-self.self c.step.new.self c.loop-self.invariant.kept
          (keeps_stepped c.in_ok-next.next (c.ticks.result + c.args.ticks - c.ticks-in-loop-self-2.result) c.loop-self.self c.step.new.self (g.O.Sink.got c.loop-self.out) (g.O.Sink.got c.step.new.out) are c.in_ok-next.ensures.kept) keeps_room;
      faults = c.in_ok-next.ensures.cause ∙ c.loop-self.invariant.faults;
      heard = heard_on c.keeps_numbers.ensures.runs c.args.self.now.state c.loop-self.self.state c.step.new.self.state goes.done are.step.done
          (record { places = _; marks = _ }) (record { places = _; marks = _ }) (record { places = _; marks = _ })
          goes.are.state are.step.are.state c.loop-self.invariant.heard c.in_ok-next.ensures.heard;
    }

pub returns-else-ticks-end-clause-run : goal.returns-else-ticks-end-clause-run
returns-else-ticks-end-clause-run g c =
    goes_out c.loop-self.printed c.args.ticks c.args.self.now.state c.loop-self.self.state (g.O.Sink.got c.args.out.now) (g.O.Sink.got c.loop-self.out) c.loop-self.invariant.goes
    (λ runs. omega (arith, c.if-ticks-end.false, c.ticks-in-loop-self.ensures.value, c.ticks.ensures.value, ap (λ (m : Meaning). m.state.ticks) c.self.view_is, ap (λ (m : Meaning). m.state.ticks) c.self-in-loop-self.view_is))

pub returns-after-loop-self-clause-run : goal.returns-after-loop-self-clause-run
returns-after-loop-self-clause-run g c =
    goes_out c.loop-self.printed c.args.ticks c.args.self.now.state c.loop-self.self.state (g.O.Sink.got c.args.out.now) (g.O.Sink.got c.loop-self.out) c.loop-self.invariant.goes
    (λ runs. absurd (let halts : c.loop-self.self.state.halted ≡ true = ap (λ (m : Meaning). m.state.halted) (sym c.self-in-loop-self.view_is) ∙ sym c.halted.ensures.value ∙ c.loop-self-test.false in cc))

pub returns-in_err-next-clause-heard : goal.returns-in_err-next-clause-heard
returns-in_err-next-clause-heard g c =
    let goes = c.loop-self.invariant.goes in
    heard_on c.keeps_numbers.ensures.runs c.args.self.now.state c.loop-self.self.state c.step.new.self.state goes.done c.in_err-next.ensures.step.cut.done
    (record { places = _; marks = _ }) (record { places = _; marks = _ }) (record { places = _; marks = _ })
    goes.are.state c.in_err-next.ensures.step.cut.are.state c.loop-self.invariant.heard c.in_err-next.ensures.heard

pub returns-in_err-next-clause-kept : goal.returns-in_err-next-clause-kept
returns-in_err-next-clause-kept g c =
    let p = err_from_is_err_and c.from_residual.result c.from_residual.ensures.1 in
    let runs : c.loop-self.self.state.halted ≡ false = ap (λ (m : Meaning). m.state.halted) (sym c.self-in-loop-self.view_is) ∙ sym c.halted.ensures.value ∙ c.loop-self-test.true in
    let kept = c.loop-self.invariant.kept in
    let keeps_room : kept.done + (c.ticks.result + c.args.ticks - c.ticks-in-loop-self-2.result) ≤ c.args.ticks =
    omega (arith, keeps_counted c.args.ticks c.args.self.now c.loop-self.self kept runs, c.ticks.ensures.value, c.ticks-in-loop-self-2.ensures.value, kept.within, ap (λ (m : Meaning). m.state.ticks) c.self.view_is, ap (λ (m : Meaning). m.state.ticks) c.self-in-loop-self.view_is) in
    rw (p.1) (keeps_on c.args.ticks (c.ticks.result + c.args.ticks - c.ticks-in-loop-self-2.result) c.args.self.now c.loop-self.self c.step.new.self kept c.in_err-next.ensures.kept keeps_room)

pub returns-else-ticks-end-clause-kept : goal.returns-else-ticks-end-clause-kept
returns-else-ticks-end-clause-kept g c =
    keeps_out c.args.ticks c.args.self.now c.loop-self.self c.loop-self.invariant.kept
    (λ runs. omega (arith, c.if-ticks-end.false, c.ticks-in-loop-self.ensures.value, c.ticks.ensures.value, ap (λ (m : Meaning). m.state.ticks) c.self.view_is, ap (λ (m : Meaning). m.state.ticks) c.self-in-loop-self.view_is))

pub returns-after-loop-self-clause-kept : goal.returns-after-loop-self-clause-kept
returns-after-loop-self-clause-kept g c =
    keeps_out c.args.ticks c.args.self.now c.loop-self.self c.loop-self.invariant.kept
    (λ runs. absurd (let halts : c.loop-self.self.state.halted ≡ true = ap (λ (m : Meaning). m.state.halted) (sym c.self-in-loop-self.view_is) ∙ sym c.halted.ensures.value ∙ c.loop-self-test.false in cc))

pub overflow_add-printed : goal.overflow_add-printed
overflow_add-printed g c =
    let are = c.in_ok-next.ensures.step in
    let goes = c.loop-self.invariant.goes in
    omega (arith, goes.few, goes.within, c.requires.most, c.in_ok-next.ensures.few, are.step.some, are.step.within)
