use Rattle.std.proofs.Common.{◌≡◌, ℕ, ◌+◌, ◌-◌, ◌≤◌, arith, subst}
use Rattle.std.proofs.Math.Nat.{min-le_left}
use Rattle.tick_steps.specs.lemmas.KeptLemmas.{kept_ticks}
use Rattle.span_engine.proofs.SilentLemmas.{AreSilent, HaveEnded, ended, its_state, its_ticks, later_on, silent_begins, silent_on, still_runs}
use Rattle.span_engine.proofs.slot.run_span.Goals as goal

pub loop-goes-init : goal.loop-goes-init
loop-goes-init c =
    let none : 0 ≡ c.args.most - c.args.most = omega arith in
    record {
      within = omega arith;
      begun = λ goes. subst (λ (n : ℕ). AreSilent n c.args.most c.place_of-at.result c.args.sys.now c.args.sys.now c.args.lines.now) none
          (silent_begins c.args.most c.place_of-at.result c.args.sys.now c.args.lines.now c.requires.some c.place_of-at.ensures.at c.requires.empty);
      ended = λ goes. absurd cc;
    }

pub run_part-requires-clause-machine : goal.run_part-requires-clause-machine
run_part-requires-clause-machine c =
    let is = c.loop-goes.invariant.begun c.loop-goes-test.true in
    let fewer = is.fewer in
    kept_ticks c.keeps_facts.ensures.ticks c.keeps_hardware_clock.ensures.ticks c.keeps_numbers.ensures.ticks c.keeps_plans.ensures.ticks
    c.args.sys.now c.loop-goes.sys (c.args.most - c.loop-goes.left) c.args.most c.requires.machine is.state (omega (arith, fewer)) c.requires.ticks

pub run_part-requires-clause-running : goal.run_part-requires-clause-running
run_part-requires-clause-running c =
    still_runs (c.args.most - c.loop-goes.left) c.args.most c.loop-goes.at c.args.sys.now c.loop-goes.sys c.loop-goes.lines (c.loop-goes.invariant.begun c.loop-goes-test.true) c.requires.running

pub run_part-requires-clause-ticks : goal.run_part-requires-clause-ticks
run_part-requires-clause-ticks c =
    let is = c.loop-goes.invariant.begun c.loop-goes-test.true in
    let ticks = its_ticks (c.args.most - c.loop-goes.left) c.args.most c.loop-goes.at c.args.sys.now c.loop-goes.sys c.loop-goes.lines is c.requires.running in
    omega (arith, c.loop-goes.invariant.within, ticks, c.requires.ticks, c.min-here.ensures, min-le_left c.loop-goes.left c.loop-goes.at.left)

pub place_on-at-requires-clause-machine : goal.place_on-at-requires-clause-machine
place_on-at-requires-clause-machine c =
    let is = c.loop-goes.invariant.begun c.loop-goes-test.true in
    let fewer : c.min-here.result ≤ c.args.most - (c.args.most - c.loop-goes.left) = omega (arith, c.loop-goes.invariant.within, c.min-here.ensures, min-le_left c.loop-goes.left c.loop-goes.at.left) in
    let left = rw c.if-goes.true at c.can_go_on-goes.ensures.fewer in
    kept_ticks c.keeps_facts.ensures.ticks c.keeps_hardware_clock.ensures.ticks c.keeps_numbers.ensures.ticks c.keeps_plans.ensures.ticks
    c.args.sys.now c.run_part.new.sys (c.args.most - c.loop-goes.left + c.run_part.new.span.ticks) c.args.most c.requires.machine
    (its_state (c.args.most - c.loop-goes.left) c.args.most c.min-here.result c.loop-goes.at c.run_part.new.span c.args.sys.now c.loop-goes.sys c.run_part.new.sys c.loop-goes.lines c.run_part.new.lines
    is c.requires.running c.run_part.ensures.done fewer)
    (omega (arith, left, c.loop-goes.invariant.within)) c.requires.ticks

pub place_on-at-requires-clause-later : goal.place_on-at-requires-clause-later
place_on-at-requires-clause-later c =
    let is = c.loop-goes.invariant.begun c.loop-goes-test.true in
    let fewer : c.min-here.result ≤ c.args.most - (c.args.most - c.loop-goes.left) = omega (arith, c.loop-goes.invariant.within, c.min-here.ensures, min-le_left c.loop-goes.left c.loop-goes.at.left) in
    later_on (c.args.most - c.loop-goes.left) c.args.most c.min-here.result c.loop-goes.at c.run_part.new.span c.args.sys.now c.loop-goes.sys c.run_part.new.sys c.loop-goes.lines c.run_part.new.lines
    is c.requires.running c.run_part.ensures.done fewer c.keeps_numbers.ensures.runs (rw c.if-goes.true at c.can_go_on-goes.ensures.silent)

pub loop-goes-preserved-then-goes : goal.loop-goes-preserved-then-goes
loop-goes-preserved-then-goes c =
    let is = c.loop-goes.invariant.begun c.loop-goes-test.true in
    let within = c.loop-goes.invariant.within in
    let fewer : c.min-here.result ≤ c.args.most - (c.args.most - c.loop-goes.left) = omega (arith, within, c.min-here.ensures, min-le_left c.loop-goes.left c.loop-goes.at.left) in
    let left = rw c.if-goes.true at c.can_go_on-goes.ensures.fewer in
    let done : c.args.most - c.loop-goes.left + c.run_part.new.span.ticks ≡ c.args.most - (c.loop-goes.left - c.run_part.new.span.ticks) = omega (arith, within, left) in
    record {
      within = omega (arith, within);
      begun = λ goes. subst (λ (n : ℕ). AreSilent n c.args.most c.place_on-at.result c.args.sys.now c.run_part.new.sys c.run_part.new.lines) done
          (silent_on (c.args.most - c.loop-goes.left) c.args.most c.min-here.result c.loop-goes.at c.run_part.new.span c.args.sys.now c.loop-goes.sys c.run_part.new.sys c.loop-goes.lines c.run_part.new.lines
          is c.requires.running c.run_part.ensures.done fewer c.place_on-at.result c.place_on-at.ensures
          (rw goes at c.can_go_on-goes.ensures.silent) (omega (arith, within, left)));
      ended = λ ends. absurd cc;
    }

pub loop-goes-preserved : goal.loop-goes-preserved
loop-goes-preserved c =
    let is = c.loop-goes.invariant.begun c.loop-goes-test.true in
    let within = c.loop-goes.invariant.within in
    let least = min-le_left c.loop-goes.left c.loop-goes.at.left in
    let fewer : c.min-here.result ≤ c.args.most - (c.args.most - c.loop-goes.left) = omega (arith, within, c.min-here.ensures, least) in
    let its = c.run_part.ensures.done.within in
    let done : c.args.most - c.loop-goes.left + c.run_part.new.span.ticks ≡ c.args.most - (c.loop-goes.left - c.run_part.new.span.ticks) = omega (arith, within, its, c.min-here.ensures, least) in
    record {
      within = omega (arith, within);
      begun = λ goes. absurd cc;
      ended = λ ends. subst (λ (n : ℕ). HaveEnded n c.args.most c.loop-goes.at c.run_part.new.span c.args.sys.now c.run_part.new.sys c.run_part.new.lines) done
          (ended (c.args.most - c.loop-goes.left) c.args.most c.min-here.result c.loop-goes.at c.run_part.new.span c.args.sys.now c.loop-goes.sys c.run_part.new.sys c.loop-goes.lines c.run_part.new.lines
          is c.requires.running c.run_part.ensures.done fewer);
    }
