use Rattle.saved_machines.specs.Reading.{saved_value}
use Rattle.xm_machine.proofs.ResumedLemmas.{kept_resumed}
use Rattle.xm_machine.proofs.machine.Machine.resume.Goals as goal

pub invariant_of-result : goal.invariant_of-result
invariant_of-result c =
    kept_resumed c.restorable_machines_keep_facts.ensures.law c.args.system (saved_value c.args.saved.now) c.in_ok-restore.field-0 c.conf.ensures.system.fits c.requires c.in_ok-restore.ensures.machine c.in_ok-restore.ensures.shapes
