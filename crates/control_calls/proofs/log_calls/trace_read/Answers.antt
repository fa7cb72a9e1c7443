use Rattle.std.proofs.Common.{rules}
use Rattle.machine_model.specs.LogCalls.{trace_read}
use Rattle.machine_model.specs.Structures.{trace_bytes}
use Rattle.control_calls.proofs.LogLemmas.{reading_given, reading_missing}
use Rattle.control_calls.proofs.ShownLemmas.{trace_read_sight}
use Rattle.control_calls.proofs.log_calls.trace_read.Goals as goal

pub returns-in-Some-read : goal.returns-in-Some-read
unfolding trace_read
returns-in-Some-read c =
    reading_given c.args.site c.args.sys.now 24 trace_bytes (λ ps. ps.traces) c.in-Some-read.entry _ _ _ (trace_read_sight _ _ c.requires.number)
    (search rules) (search rules) (search rules) (search rules) (search rules)
    (rw (c.argument-id.ensures.value, c.argument-at.ensures.value) at c.show_named.ensures)

pub returns-in-None : goal.returns-in-None
unfolding trace_read
returns-in-None c =
    reading_missing c.args.site c.args.sys.now 24 trace_bytes (λ ps. ps.traces) _ _ (trace_read_sight _ _ c.requires.number)
    (search rules) (search rules) (search rules)
    (rw c.argument-id.ensures.value at c.miss.ensures)
