use Rattle.tick_steps.specs.lemmas.HealthLemmas.{gives_up}
use Rattle.tick_steps.proofs.health.give_up.Goals as goal

pub returns-clause-done : goal.returns-clause-done
returns-clause-done c = gives_up c.args.p _ _ _ _ _ _ _ c.requires.partition c.program_counter-pc.ensures.value c.log.ensures.done c.obey.ensures.done
