use Rattle.std.proofs.Common.{◌≡◌, ◌*◌, length, take}
use Rattle.guest_bus.specs.Words.{bytes_of}
use Rattle.guest_memory.proofs.bytes.bytes_of.Given as goal

abbrev pub invariant-loop-i : goal.invariant-loop-i
invariant-loop-i l = record {
  front : take (4 * l.i) l.bytes ≡ bytes_of (take l.i l.words);
  counted : length l.bytes ≡ 64;
}
