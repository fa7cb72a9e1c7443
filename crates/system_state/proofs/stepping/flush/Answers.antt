use Rattle.std.proofs.Common.{ℕ, arith, ap, refl, sym, suc, ◌≡◌, ◌≢◌, ◌+◌, ◌-◌, ◌%◌, ◌∙◌}
use Rattle.machine_model.specs.OwnEffects.{flushed}
use Rattle.virt_traps.specs.Moves.{move_made}
use Rattle.system_state.proofs.StepLemmas.{fault_is, flush_ended, flush_more, flush_refused, moved_as}
use Rattle.system_state.proofs.stepping.flush.Goals as goal

pub returns-then-above-inv-clause-moved : goal.returns-then-above-inv-clause-moved
returns-then-above-inv-clause-moved g c =
    let all : (c.loop.own.cwp + 1) % 8 ≡ c.loop.own.inv = ap (λ (n : ℕ). (n + 1) % 8) (sym c.cwp.ensures.value) ∙ c.if-above-inv.true ∙ c.inv.ensures.value in
    let ended = sym (flush_ended (8 - c.loop.counter) (g.B.Bus.areas c.args.bus.now) c.loop.own (g.B.Bus.memory c.loop.bus) all) ∙ c.loop.invariant.rest in
    moved_as _ _ _ _ _ ended (record { answered = refl; registers = refl; bytes = refl })

pub returns-in_err-spill_cached-clause-moved : goal.returns-in_err-spill_cached-clause-moved
returns-in_err-spill_cached-clause-moved g c =
    let left : 8 - c.loop.counter ≡ suc (7 - c.loop.counter) = omega (arith, c.loop-test.true) in
    let some : (c.loop.own.cwp + 1) % 8 ≢ c.loop.own.inv = λ e. c.if-above-inv.false (ap (λ (n : ℕ). (n + 1) % 8) c.cwp.ensures.value ∙ e ∙ sym c.inv.ensures.value) in
    let answer = rw c.loop.invariant.areas at c.spill_cached.ensures.answer in
    let core = rw c.loop.invariant.areas at c.spill_cached.ensures.core in
    let memory = rw c.loop.invariant.areas at c.spill_cached.ensures.memory in
    let refused = sym (flush_refused (8 - c.loop.counter) (7 - c.loop.counter) (g.B.Bus.areas c.args.bus.now) c.loop.own (g.B.Bus.memory c.loop.bus) c.in_err-spill_cached.field-0.0 left some (sym answer ∙ c.in_err-spill_cached.was)) ∙ c.loop.invariant.rest in
    let fault = fault_is c.from_residual.result c.in_err-spill_cached.field-0.0 c.from_residual.ensures.0 ∙ sym c.in_err-spill_cached.was ∙ answer in
    moved_as _ _ _ _ _ refused (record { answered = fault; registers = core; bytes = memory })

pub loop-preserved : goal.loop-preserved
loop-preserved g c =
    let left : 8 - c.loop.counter ≡ suc (7 - c.loop.counter) = omega (arith, c.loop-test.true) in
    let some : (c.loop.own.cwp + 1) % 8 ≢ c.loop.own.inv = λ e. c.if-above-inv.false (ap (λ (n : ℕ). (n + 1) % 8) c.cwp.ensures.value ∙ e ∙ sym c.inv.ensures.value) in
    let answer = rw c.loop.invariant.areas at c.spill_cached.ensures.answer in
    let core = rw c.loop.invariant.areas at c.spill_cached.ensures.core in
    let memory = rw c.loop.invariant.areas at c.spill_cached.ensures.memory in
    let next : 8 - (c.loop.counter + 1) ≡ 7 - c.loop.counter = omega arith in
    record {
      rest =
          ap (λ count. flushed count (g.B.Bus.areas c.args.bus.now) (move_made c.spill_cached.new.processor (g.B.Bus.memory c.spill_cached.new.bus))) next
          ∙ sym (flush_more (8 - c.loop.counter) (7 - c.loop.counter) (g.B.Bus.areas c.args.bus.now) c.loop.own c.spill_cached.new.processor (g.B.Bus.memory c.loop.bus) (g.B.Bus.memory c.spill_cached.new.bus) left some (sym answer ∙ c.in_ok-spill_cached.was) core memory)
          ∙ c.loop.invariant.rest;
      areas = c.spill_cached.ensures.areas ∙ c.loop.invariant.areas;
      others = c.spill_cached.ensures.others ∙ c.loop.invariant.others;
    }

pub returns-clause-moved : goal.returns-clause-moved
returns-clause-moved g c =
    let none : 8 - c.loop.counter ≡ 0 = omega (arith, c.loop-test.false) in
    let ended = sym (ap (λ count. flushed count (g.B.Bus.areas c.args.bus.now) (move_made c.loop.own (g.B.Bus.memory c.loop.bus))) none) ∙ c.loop.invariant.rest in
    moved_as _ _ _ _ _ ended (record { answered = refl; registers = refl; bytes = refl })
