use Rattle.system_state.specs.State.{with_inputs}
use Rattle.tick_steps.specs.lemmas.KeptLemmas.{kept_boot}
use Rattle.xm_machine.proofs.machine.Machine.boot.Goals as goal

pub invariant_of-result : goal.invariant_of-result
invariant_of-result c =
    kept_boot c.keeps_facts.ensures.boots c.keeps_hardware_clock.ensures.boots c.keeps_numbers.ensures.boots c.keeps_plans.ensures.boots
    (with_inputs c.args.system c.args.inputs) c.in_ok-new.field-0 c.in_ok-new.ensures.system.fits c.in_ok-new.ensures.machine c.in_ok-new.ensures.shapes
