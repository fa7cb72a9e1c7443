use Rattle.std.proofs.Common.{◌≡◌, ℕ, ◌+◌, ◌*◌, List, ◌++◌, Bor, length, take}
use Rattle.std.specs.List.{flat_map}
use Rattle.core_files.proofs.logs.put_entries.Given as goal

abbrev pub invariant-loop-place : goal.invariant-loop-place
invariant-loop-place g l = record {
  text : (text : g.row.T.Denot → List ℕ) → ((entry : Bor g.row.T.Denot) (bytes : List ℕ) → goal.F-post g l.bytes_of entry bytes → bytes ≡ text entry.now)
      → take l.after l.into ≡ take l.at l.fn.into ++ flat_map text (take l.place l.log.entries);
  ends : l.after ≡ l.at + l.place * l.size;
  room : length l.into ≡ length l.fn.into;
}
