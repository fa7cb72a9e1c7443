use Rattle.std.proofs.Common.{subst, sym}
use Rattle.tick_steps.specs.Machine.{IsMachine}
use Rattle.xm_machine.proofs.UpsetLemmas.{kept_all}
use Rattle.xm_machine.proofs.machine.Machine.strike.Goals as goal

pub invariant_of-self : goal.invariant_of-self
invariant_of-self c = subst IsMachine (sym c.strike_all.ensures) (kept_all c.args.lines.now c.self.inside.sys c.self.invariant)
