use Rattle.std.proofs.Common.{◌≡◌, ◌+◌, ◌-◌, length, drop}
use Rattle.std.specs.Str.{bytes_eq}
use Rattle.guest_bus.specs.Memory.{bytes_at}
use Rattle.guest_memory.specs.Memories.{map_at}
use Rattle.saved_machines.proofs.pages.are_loaded.Given as goal

abbrev pub invariant-loop-place : goal.invariant-loop-place
invariant-loop-place l =
    bytes_eq (drop l.place l.bytes) (bytes_at (map_at l.p l.loaded) (l.address + l.place) (length l.bytes - l.place)) ≡ bytes_eq l.bytes (bytes_at (map_at l.p l.loaded) l.address (length l.bytes))
