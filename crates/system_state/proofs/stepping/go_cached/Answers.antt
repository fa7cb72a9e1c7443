use Rattle.std.proofs.Common.{◌-◌, ◌<◌, refl, ap, ◌∙◌, arith}
use Rattle.sparc_step.specs.Registers.{Registers}
use Rattle.sparc_step.specs.declared.outcome.Turn.TheVariants.{Went}
use Rattle.system_state.proofs.StepLemmas.{call_at, call_met, call_went, called_after, one_step_more, run_more, trapped_after}
use Rattle.system_state.proofs.stepping.go_cached.Goals as goal

pub returns-then-ran-clause-went : goal.returns-then-ran-clause-went
returns-then-ran-clause-went g c =
    let steps = run_more (c.args.most - c.loop-left.left) c.run-ran.result.went (c.args.most - (c.loop-left.left - c.run-ran.result.went)) (g.B.Bus.areas c.args.bus.now) (g.B.Bus.areas c.loop-left.bus) c.args.own.now c.loop-left.own c.run-ran.new.own (g.B.Bus.memory c.args.bus.now) (g.B.Bus.memory c.loop-left.bus) (g.B.Bus.memory c.run-ran.new.self)
    (omega (arith, c.run-ran.ensures.few, c.loop-left.invariant.few)) c.loop-left.invariant.areas c.loop-left.invariant.steps c.run-ran.ensures.steps in
    call_went c.call_met.result.went (c.args.most - (c.loop-left.left - c.run-ran.result.went)) (g.B.Bus.areas c.args.bus.now) c.args.own.now (g.B.Bus.memory c.args.bus.now) c.run-ran.new.own (g.B.Bus.memory c.run-ran.new.self) c.call_met.ensures.went steps

pub returns-then-ran-clause-gone : goal.returns-then-ran-clause-gone
returns-then-ran-clause-gone g c =
    let steps = run_more (c.args.most - c.loop-left.left) c.run-ran.result.went (c.args.most - (c.loop-left.left - c.run-ran.result.went)) (g.B.Bus.areas c.args.bus.now) (g.B.Bus.areas c.loop-left.bus) c.args.own.now c.loop-left.own c.run-ran.new.own (g.B.Bus.memory c.args.bus.now) (g.B.Bus.memory c.loop-left.bus) (g.B.Bus.memory c.run-ran.new.self)
    (omega (arith, c.run-ran.ensures.few, c.loop-left.invariant.few)) c.loop-left.invariant.areas c.loop-left.invariant.steps c.run-ran.ensures.steps in
    let room : c.run-ran.result.went < c.loop-left.left = rw c.if-ran.true at c.run-ran.ensures.room in
    call_met c.call_met.result.turn c.call_met.result.went (c.args.most - (c.loop-left.left - c.run-ran.result.went)) c.args.most (g.B.Bus.areas c.args.bus.now) (g.B.Bus.areas c.loop-left.bus) c.args.own.now c.run-ran.new.own c.call_met.new.own (g.B.Bus.memory c.args.bus.now) (g.B.Bus.memory c.run-ran.new.self)
    c.call_met.ensures.turn c.call_met.ensures.went (omega (arith, room, c.run-ran.ensures.few, c.loop-left.invariant.few)) c.loop-left.invariant.areas steps (rw c.if-ran.true at c.run-ran.ensures.call) c.call_met.ensures.core

pub returns-then-ran-clause-at : goal.returns-then-ran-clause-at
returns-then-ran-clause-at g c =
    let steps = run_more (c.args.most - c.loop-left.left) c.run-ran.result.went (c.args.most - (c.loop-left.left - c.run-ran.result.went)) (g.B.Bus.areas c.args.bus.now) (g.B.Bus.areas c.loop-left.bus) c.args.own.now c.loop-left.own c.run-ran.new.own (g.B.Bus.memory c.args.bus.now) (g.B.Bus.memory c.loop-left.bus) (g.B.Bus.memory c.run-ran.new.self)
    (omega (arith, c.run-ran.ensures.few, c.loop-left.invariant.few)) c.loop-left.invariant.areas c.loop-left.invariant.steps c.run-ran.ensures.steps in
    c.call_met.ensures.at ∙ call_at c.call_met.result.went (c.args.most - (c.loop-left.left - c.run-ran.result.went)) (g.B.Bus.areas c.args.bus.now) c.args.own.now (g.B.Bus.memory c.args.bus.now) c.run-ran.new.own (g.B.Bus.memory c.run-ran.new.self) c.call_met.ensures.went steps

pub loop-left-preserved-then-not-ran : goal.loop-left-preserved-then-not-ran
loop-left-preserved-then-not-ran g c =
    let steps = run_more (c.args.most - c.loop-left.left) c.run-ran.result.went (c.args.most - (c.loop-left.left - c.run-ran.result.went)) (g.B.Bus.areas c.args.bus.now) (g.B.Bus.areas c.loop-left.bus) c.args.own.now c.loop-left.own c.run-ran.new.own (g.B.Bus.memory c.args.bus.now) (g.B.Bus.memory c.loop-left.bus) (g.B.Bus.memory c.run-ran.new.self)
    (omega (arith, c.run-ran.ensures.few, c.loop-left.invariant.few)) c.loop-left.invariant.areas c.loop-left.invariant.steps c.run-ran.ensures.steps in
    record {
      steps = one_step_more (c.args.most - (c.loop-left.left - c.run-ran.result.went)) (c.args.most - (c.loop-left.left - c.run-ran.result.went - 1)) (g.B.Bus.areas c.args.bus.now) (g.B.Bus.areas c.run-ran.new.self) c.args.own.now c.run-ran.new.own c.settle_cached.new.processor (g.B.Bus.memory c.args.bus.now) (g.B.Bus.memory c.run-ran.new.self) (g.B.Bus.memory c.settle_cached.new.bus) Went
          (omega (arith, c.if-left-gt0.true, c.run-ran.ensures.few, c.loop-left.invariant.few)) (c.run-ran.ensures.areas ∙ c.loop-left.invariant.areas) steps refl c.in-Went.ensures.turn c.in-Went.ensures.core c.in-Went.ensures.memory;
      few = omega (arith, c.loop-left.invariant.few);
      areas = c.settle_cached.ensures.areas ∙ c.run-ran.ensures.areas ∙ c.loop-left.invariant.areas;
      others = c.settle_cached.ensures.others ∙ c.run-ran.ensures.others ∙ c.loop-left.invariant.others;
    }

pub loop-left-preserved : goal.loop-left-preserved
loop-left-preserved g c =
    let steps = run_more (c.args.most - c.loop-left.left) c.run-ran.result.went (c.args.most - (c.loop-left.left - c.run-ran.result.went)) (g.B.Bus.areas c.args.bus.now) (g.B.Bus.areas c.loop-left.bus) c.args.own.now c.loop-left.own c.run-ran.new.own (g.B.Bus.memory c.args.bus.now) (g.B.Bus.memory c.loop-left.bus) (g.B.Bus.memory c.run-ran.new.self)
    (omega (arith, c.run-ran.ensures.few, c.loop-left.invariant.few)) c.loop-left.invariant.areas c.loop-left.invariant.steps c.run-ran.ensures.steps in
    record {
      steps = steps;
      few = omega (arith, c.loop-left.invariant.few);
      areas = c.run-ran.ensures.areas ∙ c.loop-left.invariant.areas;
      others = c.run-ran.ensures.others ∙ c.loop-left.invariant.others;
    }

pub returns-in-Trap-clause-went : goal.returns-in-Trap-clause-went
returns-in-Trap-clause-went g c =
    let steps = run_more (c.args.most - c.loop-left.left) c.run-ran.result.went (c.args.most - (c.loop-left.left - c.run-ran.result.went)) (g.B.Bus.areas c.args.bus.now) (g.B.Bus.areas c.loop-left.bus) c.args.own.now c.loop-left.own c.run-ran.new.own (g.B.Bus.memory c.args.bus.now) (g.B.Bus.memory c.loop-left.bus) (g.B.Bus.memory c.run-ran.new.self)
    (omega (arith, c.run-ran.ensures.few, c.loop-left.invariant.few)) c.loop-left.invariant.areas c.loop-left.invariant.steps c.run-ran.ensures.steps in
    steps.went

pub returns-in-Trap-clause-gone : goal.returns-in-Trap-clause-gone
returns-in-Trap-clause-gone g c =
    let steps = run_more (c.args.most - c.loop-left.left) c.run-ran.result.went (c.args.most - (c.loop-left.left - c.run-ran.result.went)) (g.B.Bus.areas c.args.bus.now) (g.B.Bus.areas c.loop-left.bus) c.args.own.now c.loop-left.own c.run-ran.new.own (g.B.Bus.memory c.args.bus.now) (g.B.Bus.memory c.loop-left.bus) (g.B.Bus.memory c.run-ran.new.self)
    (omega (arith, c.run-ran.ensures.few, c.loop-left.invariant.few)) c.loop-left.invariant.areas c.loop-left.invariant.steps c.run-ran.ensures.steps in
    trapped_after (c.args.most - (c.loop-left.left - c.run-ran.result.went)) c.args.most c.in-Trap.trap_type (g.B.Bus.areas c.args.bus.now) (g.B.Bus.areas c.run-ran.new.self) c.args.own.now c.run-ran.new.own c.settle_cached.new.processor (g.B.Bus.memory c.args.bus.now) (g.B.Bus.memory c.run-ran.new.self) (g.B.Bus.memory c.settle_cached.new.bus)
    (omega (arith, c.if-left-gt0.true, c.run-ran.ensures.few, c.loop-left.invariant.few)) (c.run-ran.ensures.areas ∙ c.loop-left.invariant.areas) steps c.in-Trap.ensures.turn c.in-Trap.ensures.core c.in-Trap.ensures.memory c.in-Trap.ensures.trapped

pub returns-in-Trap-clause-at : goal.returns-in-Trap-clause-at
returns-in-Trap-clause-at g c =
    let steps = run_more (c.args.most - c.loop-left.left) c.run-ran.result.went (c.args.most - (c.loop-left.left - c.run-ran.result.went)) (g.B.Bus.areas c.args.bus.now) (g.B.Bus.areas c.loop-left.bus) c.args.own.now c.loop-left.own c.run-ran.new.own (g.B.Bus.memory c.args.bus.now) (g.B.Bus.memory c.loop-left.bus) (g.B.Bus.memory c.run-ran.new.self)
    (omega (arith, c.run-ran.ensures.few, c.loop-left.invariant.few)) c.loop-left.invariant.areas c.loop-left.invariant.steps c.run-ran.ensures.steps in
    c.pc-pc.ensures.value ∙ ap (λ (r : Registers). r.pc) steps.registers

pub returns-in-Call-clause-went : goal.returns-in-Call-clause-went
returns-in-Call-clause-went g c =
    let steps = run_more (c.args.most - c.loop-left.left) c.run-ran.result.went (c.args.most - (c.loop-left.left - c.run-ran.result.went)) (g.B.Bus.areas c.args.bus.now) (g.B.Bus.areas c.loop-left.bus) c.args.own.now c.loop-left.own c.run-ran.new.own (g.B.Bus.memory c.args.bus.now) (g.B.Bus.memory c.loop-left.bus) (g.B.Bus.memory c.run-ran.new.self)
    (omega (arith, c.run-ran.ensures.few, c.loop-left.invariant.few)) c.loop-left.invariant.areas c.loop-left.invariant.steps c.run-ran.ensures.steps in
    steps.went

pub returns-in-Call-clause-gone : goal.returns-in-Call-clause-gone
returns-in-Call-clause-gone g c =
    let steps = run_more (c.args.most - c.loop-left.left) c.run-ran.result.went (c.args.most - (c.loop-left.left - c.run-ran.result.went)) (g.B.Bus.areas c.args.bus.now) (g.B.Bus.areas c.loop-left.bus) c.args.own.now c.loop-left.own c.run-ran.new.own (g.B.Bus.memory c.args.bus.now) (g.B.Bus.memory c.loop-left.bus) (g.B.Bus.memory c.run-ran.new.self)
    (omega (arith, c.run-ran.ensures.few, c.loop-left.invariant.few)) c.loop-left.invariant.areas c.loop-left.invariant.steps c.run-ran.ensures.steps in
    called_after (c.args.most - (c.loop-left.left - c.run-ran.result.went)) c.args.most (g.B.Bus.areas c.args.bus.now) (g.B.Bus.areas c.run-ran.new.self) c.args.own.now c.run-ran.new.own c.settle_cached.new.processor (g.B.Bus.memory c.args.bus.now) (g.B.Bus.memory c.run-ran.new.self) (g.B.Bus.memory c.settle_cached.new.bus)
    (omega (arith, c.if-left-gt0.true, c.run-ran.ensures.few, c.loop-left.invariant.few)) (c.run-ran.ensures.areas ∙ c.loop-left.invariant.areas) steps c.in-Call.ensures.turn c.in-Call.ensures.core c.in-Call.ensures.memory

pub returns-in-Call-clause-at : goal.returns-in-Call-clause-at
returns-in-Call-clause-at g c =
    let steps = run_more (c.args.most - c.loop-left.left) c.run-ran.result.went (c.args.most - (c.loop-left.left - c.run-ran.result.went)) (g.B.Bus.areas c.args.bus.now) (g.B.Bus.areas c.loop-left.bus) c.args.own.now c.loop-left.own c.run-ran.new.own (g.B.Bus.memory c.args.bus.now) (g.B.Bus.memory c.loop-left.bus) (g.B.Bus.memory c.run-ran.new.self)
    (omega (arith, c.run-ran.ensures.few, c.loop-left.invariant.few)) c.loop-left.invariant.areas c.loop-left.invariant.steps c.run-ran.ensures.steps in
    c.pc-pc.ensures.value ∙ ap (λ (r : Registers). r.pc) steps.registers
