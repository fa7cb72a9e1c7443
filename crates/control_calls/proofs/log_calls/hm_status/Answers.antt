use Rattle.std.proofs.Common.{rules}
use Rattle.machine_model.specs.LogCalls.{hm_status}
use Rattle.machine_model.specs.Structures.{counts_bytes}
use Rattle.control_calls.proofs.LogLemmas.{writing_given}
use Rattle.control_calls.proofs.ShownLemmas.{health_status_sight}
use Rattle.control_calls.proofs.log_calls.hm_status.Goals as goal

pub returns : goal.returns
unfolding hm_status
returns c =
    writing_given c.args.site c.args.sys.now 8 (λ ps. counts_bytes ps.health) _ _ _ (health_status_sight _ _ c.requires.number)
    (search rules) (search rules) (search rules) (search rules)
    (rw (c.argument-id.ensures.value, c.argument-at.ensures.value) at c.show_named.ensures)
