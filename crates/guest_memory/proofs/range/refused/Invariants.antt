use Rattle.std.proofs.Common.{◌≡◌, ◌+◌, ◌≤◌, ◌^◌}
use Rattle.guest_memory.specs.Flat.{listed}
use Rattle.guest_memory.specs.lemmas.MemoriesTerms.{allows_byte}
use Rattle.guest_memory.specs.Memories.{first_refused}
use Rattle.guest_memory.proofs.range.refused.Given as goal

abbrev pub invariant-loop-left : goal.invariant-loop-left
invariant-loop-left l = record {
  rest : first_refused (allows_byte l.access (listed l.entries)) l.at l.left ≡ first_refused (allows_byte l.access (listed l.entries)) l.address l.count;
  sum : l.at + l.left ≡ l.address + l.count;
  below : l.at ≤ 2 ^ 32;
}

abbrev pub decreases-loop-left : goal.decreases-loop-left
decreases-loop-left l = l.left
