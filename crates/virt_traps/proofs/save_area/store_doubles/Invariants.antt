use Rattle.std.proofs.Common.{◌≡◌, ◌+◌, ◌*◌}
use Rattle.guest_bus.specs.Memory.{with_bytes}
use Rattle.guest_bus.specs.Words.{bytes_of}
use Rattle.std.specs.Prelude.{drop}
use Rattle.virt_traps.proofs.save_area.store_doubles.Given as goal

abbrev pub invariant-loop-i : goal.invariant-loop-i
invariant-loop-i g l = record {
  left : with_bytes (g.B.Bus.memory l.bus) (l.fn.address + 8 * l.i) (bytes_of (drop (2 * l.i) l.words)) ≡ with_bytes (g.B.Bus.memory l.fn.bus) l.fn.address (bytes_of l.words);
  areas : g.B.Bus.areas l.bus ≡ g.B.Bus.areas l.fn.bus;
  others : g.B.Bus.others l.bus ≡ g.B.Bus.others l.fn.bus;
}
