use Rattle.std.proofs.Common.{◌≡◌, ℕ, ◌+◌, ◌*◌, ◌<◌, length, take, drop}
use Rattle.std.specs.Int.{from_be_bytes, w32}
use Rattle.std.specs.Prelude.{slice_index}
use Rattle.guest_memory.proofs.bytes.get_words.Given as goal

abbrev pub invariant-loop-i : goal.invariant-loop-i
invariant-loop-i l = record {
  got : (k : ℕ) → k < 2 * l.i → slice_index l.words k ≡ from_be_bytes w32 (take 4 (drop (l.at + 4 * k) l.bytes));
  counted : length l.words ≡ 16;
}
