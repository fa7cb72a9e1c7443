use Rattle.std.proofs.Common.{◌≡◌, ℕ, ◌+◌, ◌-◌, ◌/◌, ◌≤◌, length}
use Rattle.machine_saves.specs.lemmas.SaveTerms.{changed_from}
use Rattle.machine_saves.proofs.pages.count_changed.Given as goal

abbrev pub invariant-loop-number : goal.invariant-loop-number
invariant-loop-number l = record {
  counted : (start : ℕ) → l.count + length (changed_from l.loaded l.now start l.number (length l.now / 256 - l.number)) ≡ length (changed_from l.loaded l.now start 0 (length l.now / 256));
  few : l.count ≤ l.number;
}
