use Rattle.std.proofs.Common.{rules}
use Rattle.machine_model.specs.LogCalls.{trace_status}
use Rattle.machine_model.specs.Structures.{counts_bytes}
use Rattle.control_calls.proofs.LogLemmas.{writing_given}
use Rattle.control_calls.proofs.ShownLemmas.{trace_status_sight}
use Rattle.control_calls.proofs.log_calls.trace_status.Goals as goal

pub returns : goal.returns
unfolding trace_status
returns c =
    writing_given c.args.site c.args.sys.now 8 (λ ps. counts_bytes ps.traces) _ _ _ (trace_status_sight _ _ c.requires.number)
    (search rules) (search rules) (search rules) (search rules)
    (rw (c.argument-id.ensures.value, c.argument-at.ensures.value) at c.show_named.ensures)
