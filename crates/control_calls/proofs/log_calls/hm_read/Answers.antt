use Rattle.std.proofs.Common.{rules}
use Rattle.machine_model.specs.LogCalls.{hm_read}
use Rattle.machine_model.specs.Structures.{health_bytes}
use Rattle.control_calls.proofs.LogLemmas.{reading_given, reading_missing}
use Rattle.control_calls.proofs.ShownLemmas.{health_read_sight}
use Rattle.control_calls.proofs.log_calls.hm_read.Goals as goal

pub returns-in-Some-read : goal.returns-in-Some-read
unfolding hm_read
returns-in-Some-read c =
    reading_given c.args.site c.args.sys.now 20 health_bytes (λ ps. ps.health) c.in-Some-read.entry _ _ _ (health_read_sight _ _ c.requires.number)
    (search rules) (search rules) (search rules) (search rules) (search rules)
    (rw (c.argument-id.ensures.value, c.argument-at.ensures.value) at c.show_named.ensures)

pub returns-in-None : goal.returns-in-None
unfolding hm_read
returns-in-None c =
    reading_missing c.args.site c.args.sys.now 20 health_bytes (λ ps. ps.health) _ _ (health_read_sight _ _ c.requires.number)
    (search rules) (search rules) (search rules)
    (rw c.argument-id.ensures.value at c.miss.ensures)
