use Rattle.std.proofs.Common.{◌≡◌, ◌≤◌, ◌-◌, length, take}
use Rattle.guest_bus.specs.Memory.{bytes_at}
use Rattle.guest_memory.specs.Flat.{listed, memory_in}
use Rattle.guest_memory.proofs.range.read.Given as goal

abbrev pub invariant-loop-done : goal.invariant-loop-done
invariant-loop-done l = record {
  within : l.done ≤ length l.into;
  front : take l.done l.into ≡ bytes_at (memory_in (listed l.entries) l.bytes) l.address l.done;
}

abbrev pub decreases-loop-done : goal.decreases-loop-done
decreases-loop-done l = length l.into - l.done
