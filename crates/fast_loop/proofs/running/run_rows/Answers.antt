use Rattle.std.proofs.Common.{◌+◌, ◌%◌, ◌^◌, ◌∙◌, subst, sym, ap, ℕ}
use Rattle.sparc_step.specs.Registers.{Registers}
use Rattle.fast_loop.specs.Runs.{AreSteps}
use Rattle.fast_loop.proofs.RunningLemmas.{at_start}
use Rattle.fast_loop.proofs.running.run_rows.Goals as goal

pub returns-clause-steps : goal.returns-clause-steps
returns-clause-steps g c =
    subst (λ (r : Registers). AreSteps c.run_in.result.went (g.B.Bus.areas c.args.bus.now) r (g.B.Bus.memory c.args.bus.now) c.run_in.new.own (g.B.Bus.memory c.run_in.new.bus))
    (at_start c.args.origin c.place_of-from.result c.args.own.now (c.place_of-from.ensures.value ∙ c.pc-pc.ensures.value)
    (sym c.npc.ensures.value ∙ c.if-npc-pc.false ∙ ap (λ (a : ℕ). (a + 4) % 2 ^ 32) c.pc-pc.ensures.value))
    c.run_in.ensures.steps
