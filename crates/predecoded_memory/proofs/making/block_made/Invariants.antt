use Rattle.std.proofs.Common.{◌≡◌, ◌+◌, ◌-◌, ◌≤◌, length}
use Rattle.std.specs.Bool.{OnTrue}
use Rattle.guest_memory.specs.Memories.{areas_at, map_at}
use Rattle.predecoded_memory.specs.lemmas.MakingTerms.{AreGrown, IsAfterExit}
use Rattle.predecoded_memory.proofs.making.block_made.Given as goal

abbrev pub invariant-loop-found : goal.invariant-loop-found
invariant-loop-found l = record {
  grown : AreGrown (areas_at l.fn.ram.selected l.fn.ram) (map_at l.fn.ram.selected l.fn.ram) l.first (l.at + 1) l.fn.rows l.fn.lengths l.rows l.lengths;
  from : l.place ≤ l.at;
  within : l.at ≤ length l.fn.rows;
  near : l.at ≤ l.place + 120;
  exit : OnTrue l.found (IsAfterExit l.rows l.place l.at);
  same : l.ram ≡ l.fn.ram;
}

abbrev pub decreases-loop-found : goal.decreases-loop-found
decreases-loop-found l = length l.fn.rows - l.at
