use Rattle.std.proofs.Common.{◌≡◌, ◌≤◌, ◌-◌, length, take}
use Rattle.guest_bus.specs.Memory.{with_bytes}
use Rattle.guest_memory.specs.Flat.{listed, memory_in}
use Rattle.guest_memory.proofs.range.write.Given as goal

abbrev pub invariant-loop-done : goal.invariant-loop-done
invariant-loop-done l = record {
  within : l.done ≤ length l.from;
  written : memory_in (listed l.entries) l.bytes ≡ with_bytes (memory_in (listed l.entries) l.fn.bytes) l.address (take l.done l.from);
  length : length l.bytes ≡ length l.fn.bytes;
}

abbrev pub decreases-loop-done : goal.decreases-loop-done
decreases-loop-done l = length l.from - l.done
