use Rattle.std.proofs.Common.{◌≡◌, true}
use Rattle.guest_bus.specs.Memory.{all_from, is_readable}
use Rattle.machine_model.specs.Partition.{areas_of}
use Rattle.system_state.specs.Serving.{caller_of}
use Rattle.port_calls.proofs.port_making.readable.Given as goal

abbrev pub invariant-loop-count : goal.invariant-loop-count
invariant-loop-count l = all_from (is_readable (areas_of (caller_of l.fn.site l.fn.sys).view)) l.fn.address l.count ≡ true
