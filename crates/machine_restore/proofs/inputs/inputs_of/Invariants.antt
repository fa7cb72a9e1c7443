use Rattle.std.proofs.Common.{◌≡◌, ◌-◌, ◌++◌, [], List, ℕ, length, map, replicate, take}
use Rattle.machine_restore.proofs.inputs.inputs_of.Given as goal

-- the first this many partitions have their words, and the others none
pub record AreGiven (parts p : ℕ) (words inputs : List (List ℕ)) : Type 0 where
  pub given : inputs ≡ take p words ++ replicate (parts - p) []
  pub long : length inputs ≡ parts

abbrev pub invariant-loop-p : goal.invariant-loop-p
invariant-loop-p l = AreGiven l.parts l.p (map (λ own. own.items) l.words) l.inputs
