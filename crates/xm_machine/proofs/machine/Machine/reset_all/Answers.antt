use Rattle.tick_steps.specs.lemmas.KeptLemmas.{kept_reset_all}
use Rattle.xm_machine.proofs.machine.Machine.reset_all.Goals as goal

pub invariant_of-self : goal.invariant_of-self
invariant_of-self c =
    let log = rw (← c.self.view_is) at c.requires.log in
    rw (c.set_now.ensures.value, c.start.ensures.value, c.reset_all.ensures) (kept_reset_all c.self.inside.sys c.args.mode c.self.invariant log)
