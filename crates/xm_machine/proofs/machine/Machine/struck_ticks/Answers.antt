use Rattle.std.proofs.Common.{◌≡◌, ◌+◌, ◌-◌, ◌≤◌, false, true, ap, refl, sym, ◌∙◌, arith}
use Rattle.std.proofs.lemmas.Result.{err_from_is_err_and}
use Rattle.continuation_laws.specs.Onward.{coming}
use Rattle.upset_model.specs.lemmas.Segments.{from}
use Rattle.xm_machine.specs.Machine.{Meaning}
use Rattle.xm_machine.proofs.StruckLemmas.{at_begun, begins_struck, begun_ordered, goes_struck, next_strike, next_upsets, struck_cut, struck_nearer, struck_out}
use Rattle.xm_machine.proofs.machine.Machine.struck_ticks.Goals as goal

pub loop-self-init : goal.loop-self-init
loop-self-init g c = record {
  goes = begins_struck c.args.ticks c.args.upsets.now c.new-coming.result c.args.self.now.state (g.O.Sink.got c.args.out.now) (record { places = _; marks = _ }) c.new-coming.ensures c.requires.ordered;
  faults = refl;
}

pub due-now-requires : goal.due-now-requires
due-now-requires g c =
    let runs : c.loop-self.self.state.halted ≡ false = ap (λ (m : Meaning). m.state.halted) (sym c.self-in-loop-self.view_is) ∙ sym c.halted.ensures.value ∙ c.loop-self-test.true in
    let begun : c.ticks-begun.result ≡ c.loop-self.self.state.ticks = c.ticks-begun.ensures.value ∙ ap (λ (m : Meaning). m.state.ticks) c.self-in-loop-self.view_is in
    begun_ordered c.ticks-begun.result c.loop-self.printed c.args.ticks c.args.upsets.now c.loop-self.coming c.args.self.now.state c.loop-self.self.state
    (g.O.Sink.got c.args.out.now) (g.O.Sink.got c.loop-self.out) (record { places = _; marks = _ }) (record { places = _; marks = _ }) c.loop-self.invariant.goes runs begun

pub struck_piece-requires-clause-strike : goal.struck_piece-requires-clause-strike
struck_piece-requires-clause-strike g c =
    let runs : c.loop-self.self.state.halted ≡ false = ap (λ (m : Meaning). m.state.halted) (sym c.self-in-loop-self.view_is) ∙ sym c.halted.ensures.value ∙ c.loop-self-test.true in
    let begun : c.ticks-begun.result ≡ c.loop-self.self.state.ticks = c.ticks-begun.ensures.value ∙ ap (λ (m : Meaning). m.state.ticks) c.self-in-loop-self.view_is in
    let to = at_begun c.ticks-begun.result c.loop-self.printed c.args.ticks c.args.upsets.now c.loop-self.coming c.args.self.now.state c.loop-self.self.state
    (g.O.Sink.got c.args.out.now) (g.O.Sink.got c.loop-self.out) (record { places = _; marks = _ }) (record { places = _; marks = _ }) c.loop-self.invariant.goes runs begun in
    next_strike (c.ticks-begun.result - c.args.self.now.state.ticks) c.ticks-begun.result c.loop-self.printed c.args.ticks c.args.upsets.now c.loop-self.coming c.due-now.result.now c.args.self.now.state c.loop-self.self.state
    (g.O.Sink.got c.args.out.now) (g.O.Sink.got c.loop-self.out) (record { places = _; marks = _ }) (record { places = _; marks = _ }) to.0 to.1 c.requires.strike c.due-now.ensures.these

pub returns-in_err-printed-clause-run : goal.returns-in_err-printed-clause-run
returns-in_err-printed-clause-run g c =
    let p = err_from_is_err_and c.from_residual.result c.from_residual.ensures.1 in
    let runs : c.loop-self.self.state.halted ≡ false = ap (λ (m : Meaning). m.state.halted) (sym c.self-in-loop-self.view_is) ∙ sym c.halted.ensures.value ∙ c.loop-self-test.true in
    let begun : c.ticks-begun.result ≡ c.loop-self.self.state.ticks = c.ticks-begun.ensures.value ∙ ap (λ (m : Meaning). m.state.ticks) c.self-in-loop-self.view_is in
    let first : c.ticks.result ≡ c.args.self.now.state.ticks = c.ticks.ensures.value ∙ ap (λ (m : Meaning). m.state.ticks) c.self.view_is in
    let to = at_begun c.ticks-begun.result c.loop-self.printed c.args.ticks c.args.upsets.now c.loop-self.coming c.args.self.now.state c.loop-self.self.state
    (g.O.Sink.got c.args.out.now) (g.O.Sink.got c.loop-self.out) (record { places = _; marks = _ }) (record { places = _; marks = _ }) c.loop-self.invariant.goes runs begun in
    let now = next_upsets c.args.self.now.state.ticks (c.ticks-begun.result - c.args.self.now.state.ticks) c.ticks-begun.result c.next.result c.args.upsets.now c.loop-self.coming c.due-now.new.self c.due-now.result.now
    to.1 to.0.same c.due-now.ensures.these c.due-now.ensures.later (c.next.ensures.none (c.ticks-begun.result + 1) c.due-now.ensures.ordered) in
    let more : c.ticks-begun.result + 1 ≤ c.ticks.result + c.args.ticks = omega (arith, c.if-ticks-end.true, c.ticks-in-loop-self.ensures.value, c.ticks-begun.ensures.value) in
    let nearer : c.ticks-begun.result + 1 ≤ c.next.result = c.next.ensures.later (c.ticks-begun.result + 1) c.due-now.ensures.ordered more in
    rw (p.1) (struck_cut (c.ticks-begun.result - c.args.self.now.state.ticks) (c.next.result - c.ticks-begun.result) c.args.ticks c.loop-self.printed (coming c.args.upsets.now c.args.self.now.state) c.args.self.now.state c.loop-self.self.state c.struck_piece.new.self.state
    (g.O.Sink.got c.args.out.now) (g.O.Sink.got c.loop-self.out) (g.O.Sink.got c.struck_piece.new.out)
    (record { places = _; marks = _ }) (record { places = _; marks = _ }) (record { places = _; marks = _ })
    to.0.are (c.in_err-printed.ensures.run (from (c.ticks-begun.result - c.args.self.now.state.ticks) (coming c.args.upsets.now c.args.self.now.state)) now.0 now.1) (omega (arith, to.1, first, nearer, c.next.ensures.within)))

pub loop-self-smaller : goal.loop-self-smaller
loop-self-smaller g c =
    let runs : c.loop-self.self.state.halted ≡ false = ap (λ (m : Meaning). m.state.halted) (sym c.self-in-loop-self.view_is) ∙ sym c.halted.ensures.value ∙ c.loop-self-test.true in
    let more : c.ticks-begun.result + 1 ≤ c.ticks.result + c.args.ticks = omega (arith, c.if-ticks-end.true, c.ticks-in-loop-self.ensures.value, c.ticks-begun.ensures.value) in
    let nearer : c.ticks-begun.result + 1 ≤ c.next.result = c.next.ensures.later (c.ticks-begun.result + 1) c.due-now.ensures.ordered more in
    struck_nearer (c.ticks.result + c.args.ticks) (c.next.result - c.ticks-begun.result) c.due-now.result.now c.loop-self.self.state c.struck_piece.new.self.state runs
    (omega (arith, c.if-ticks-end.true, c.ticks-in-loop-self.ensures.value, ap (λ (m : Meaning). m.state.ticks) c.self-in-loop-self.view_is)) (omega (arith, nearer)) c.in_ok-printed.ensures.state

pub loop-self-preserved : goal.loop-self-preserved
loop-self-preserved g c =
    let runs : c.loop-self.self.state.halted ≡ false = ap (λ (m : Meaning). m.state.halted) (sym c.self-in-loop-self.view_is) ∙ sym c.halted.ensures.value ∙ c.loop-self-test.true in
    let begun : c.ticks-begun.result ≡ c.loop-self.self.state.ticks = c.ticks-begun.ensures.value ∙ ap (λ (m : Meaning). m.state.ticks) c.self-in-loop-self.view_is in
    let first : c.ticks.result ≡ c.args.self.now.state.ticks = c.ticks.ensures.value ∙ ap (λ (m : Meaning). m.state.ticks) c.self.view_is in
    let to = at_begun c.ticks-begun.result c.loop-self.printed c.args.ticks c.args.upsets.now c.loop-self.coming c.args.self.now.state c.loop-self.self.state
    (g.O.Sink.got c.args.out.now) (g.O.Sink.got c.loop-self.out) (record { places = _; marks = _ }) (record { places = _; marks = _ }) c.loop-self.invariant.goes runs begun in
    let now = next_upsets c.args.self.now.state.ticks (c.ticks-begun.result - c.args.self.now.state.ticks) c.ticks-begun.result c.next.result c.args.upsets.now c.loop-self.coming c.due-now.new.self c.due-now.result.now
    to.1 to.0.same c.due-now.ensures.these c.due-now.ensures.later (c.next.ensures.none (c.ticks-begun.result + 1) c.due-now.ensures.ordered) in
    let more : c.ticks-begun.result + 1 ≤ c.ticks.result + c.args.ticks = omega (arith, c.if-ticks-end.true, c.ticks-in-loop-self.ensures.value, c.ticks-begun.ensures.value) in
    let nearer : c.ticks-begun.result + 1 ≤ c.next.result = c.next.ensures.later (c.ticks-begun.result + 1) c.due-now.ensures.ordered more in
    record {
      goes = goes_struck c.keeps_numbers.ensures.runs (c.ticks-begun.result - c.args.self.now.state.ticks) c.ticks-begun.result c.loop-self.printed c.in_ok-printed.field-0 c.args.ticks c.next.result
          c.args.upsets.now c.loop-self.coming c.due-now.new.self c.due-now.result.now c.args.self.now.state c.loop-self.self.state c.struck_piece.new.self.state
          (g.O.Sink.got c.args.out.now) (g.O.Sink.got c.loop-self.out) (g.O.Sink.got c.struck_piece.new.out)
          (record { places = _; marks = _ }) (record { places = _; marks = _ }) (record { places = _; marks = _ })
          to.0 to.1 runs (omega (arith, nearer)) (omega (arith, first, c.next.ensures.within)) c.due-now.ensures.all c.due-now.ensures.later (c.next.ensures.ordered (c.ticks-begun.result + 1) c.due-now.ensures.ordered)
          (c.in_ok-printed.ensures.run (from (c.ticks-begun.result - c.args.self.now.state.ticks) (coming c.args.upsets.now c.args.self.now.state)) now.0 now.1) c.in_ok-printed.ensures.state c.in_ok-printed.ensures.few;
      faults = c.in_ok-printed.ensures.cause ∙ c.loop-self.invariant.faults;
    }

pub returns-else-ticks-end-clause-run : goal.returns-else-ticks-end-clause-run
returns-else-ticks-end-clause-run g c =
    (struck_out c.loop-self.printed c.args.ticks c.args.upsets.now c.loop-self.coming c.args.self.now.state c.loop-self.self.state (g.O.Sink.got c.args.out.now) (g.O.Sink.got c.loop-self.out)
    (record { places = _; marks = _ }) (record { places = _; marks = _ }) c.loop-self.invariant.goes
    (λ runs. omega (arith, c.if-ticks-end.false, c.ticks-in-loop-self.ensures.value, c.ticks.ensures.value, ap (λ (m : Meaning). m.state.ticks) c.self.view_is, ap (λ (m : Meaning). m.state.ticks) c.self-in-loop-self.view_is))).0

pub returns-else-ticks-end-clause-counted : goal.returns-else-ticks-end-clause-counted
returns-else-ticks-end-clause-counted g c =
    (struck_out c.loop-self.printed c.args.ticks c.args.upsets.now c.loop-self.coming c.args.self.now.state c.loop-self.self.state (g.O.Sink.got c.args.out.now) (g.O.Sink.got c.loop-self.out)
    (record { places = _; marks = _ }) (record { places = _; marks = _ }) c.loop-self.invariant.goes
    (λ runs. omega (arith, c.if-ticks-end.false, c.ticks-in-loop-self.ensures.value, c.ticks.ensures.value, ap (λ (m : Meaning). m.state.ticks) c.self.view_is, ap (λ (m : Meaning). m.state.ticks) c.self-in-loop-self.view_is))).1

pub returns-after-loop-self-clause-run : goal.returns-after-loop-self-clause-run
returns-after-loop-self-clause-run g c =
    (struck_out c.loop-self.printed c.args.ticks c.args.upsets.now c.loop-self.coming c.args.self.now.state c.loop-self.self.state (g.O.Sink.got c.args.out.now) (g.O.Sink.got c.loop-self.out)
    (record { places = _; marks = _ }) (record { places = _; marks = _ }) c.loop-self.invariant.goes
    (λ runs. absurd (let halts : c.loop-self.self.state.halted ≡ true = ap (λ (m : Meaning). m.state.halted) (sym c.self-in-loop-self.view_is) ∙ sym c.halted.ensures.value ∙ c.loop-self-test.false in cc))).0

pub returns-after-loop-self-clause-counted : goal.returns-after-loop-self-clause-counted
returns-after-loop-self-clause-counted g c =
    (struck_out c.loop-self.printed c.args.ticks c.args.upsets.now c.loop-self.coming c.args.self.now.state c.loop-self.self.state (g.O.Sink.got c.args.out.now) (g.O.Sink.got c.loop-self.out)
    (record { places = _; marks = _ }) (record { places = _; marks = _ }) c.loop-self.invariant.goes
    (λ runs. absurd (let halts : c.loop-self.self.state.halted ≡ true = ap (λ (m : Meaning). m.state.halted) (sym c.self-in-loop-self.view_is) ∙ sym c.halted.ensures.value ∙ c.loop-self-test.false in cc))).1
