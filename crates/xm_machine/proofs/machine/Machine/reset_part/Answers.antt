use Rattle.std.proofs.Common.{subst, sym}
use Rattle.tick_steps.specs.Machine.{IsMachine}
use Rattle.tick_steps.specs.lemmas.KeptLemmas.{kept_reset}
use Rattle.xm_machine.proofs.machine.Machine.reset_part.Goals as goal

pub invariant_of-self : goal.invariant_of-self
invariant_of-self c =
    let below = rw (← c.self.view_is) at c.requires.partition in
    let log = rw (← c.self.view_is) at c.requires.log in
    subst IsMachine (sym c.reset.ensures) (kept_reset c.self.inside.sys c.args.p c.self.invariant below c.args.mode c.args.status log)
