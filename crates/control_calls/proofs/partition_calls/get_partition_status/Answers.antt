use Rattle.std.proofs.Common.{rules}
use Rattle.machine_model.specs.PartitionCalls.{get_partition_status}
use Rattle.machine_model.specs.Structures.{partition_status}
use Rattle.control_calls.proofs.LogLemmas.{writing_given}
use Rattle.control_calls.proofs.ShownLemmas.{partition_status_sight}
use Rattle.control_calls.proofs.partition_calls.get_partition_status.Goals as goal

pub returns : goal.returns
unfolding get_partition_status
returns c =
    writing_given c.args.site c.args.sys.now 20 partition_status _ _ _ (partition_status_sight _ _ c.requires.number)
    (search rules) (search rules) (search rules) (search rules)
    (rw (c.argument-id.ensures.value, c.argument-at.ensures.value) at c.show_named.ensures)
