use Rattle.std.proofs.Common.{arith}
use Rattle.guest_bus.specs.Memory.{is_readable}
use Rattle.machine_model.specs.Partition.{areas_of}
use Rattle.system_state.specs.Serving.{caller_of}
use Rattle.port_calls.proofs.PortMakingLemmas.{all_readable}
use Rattle.port_calls.proofs.port_making.readable.Goals as goal

pub returns : goal.returns
returns c =
    all_readable (is_readable (areas_of (caller_of c.args.site c.args.sys.now).view)) c.args.address 32 c.loop-count.count
    (omega (arith, c.loop-count-test.false, c.loop-count.auto.count-end)) c.loop-count.invariant
