-- The maps of names and numbers, begun and with one partition more.
use Rattle.std.proofs.Common.{◌≡◌, ◌∙◌, refl, arith, ℕ, ◌-◌, ◌<◌, ◌≤◌, ◌==◌, Bool, true, false, cond, List, length, drop, Bor, Some, None}
use Rattle.std.specs.Prelude.{nat_le, slice_get}
use Rattle.std.proofs.lemmas.Bool.Decides.{nat_tests}
use Rattle.std.proofs.lemmas.List.{drop_all}
use Rattle.std.proofs.lemmas.Option.{slice_get-map}
use Rattle.indexmap.specs.IndexMap.{IndexMap, get}
use Rattle.xm_conf.specs.Configuration.{Part}
use Rattle.xm_conf.specs.declared.port.Port.{Port}
use Rattle.xmcf_check.specs.Described.{names_of_ports, names_or_none, port_names}
use Rattle.xmcf_check.specs.lemmas.Numbers.{HasAllPorts, HasNone, HasPortNumbers, HasNumbersForPorts, first_from, same_key}

-- no port is noted yet
pub ports_begin : {S : Type 0} (part : ℕ) (ports : List Port) (numbers : IndexMap (ℕ × Bor (List ℕ)) ℕ S) → HasNone part numbers → HasNumbersForPorts part (length ports) (drop (length ports) ports) numbers numbers
ports_begin part ports numbers none key = rw (drop_all (length ports) ports (omega arith)) (at (part == key.0) refl)
  where
    at : (same : Bool) → (part == key.0) ≡ same → get same_key numbers key ≡ cond same None (get same_key numbers key)
    at true same = none key same
    at false same = refl

-- the ports of one partition more are noted
pub parts_more : {S : Type 0} (left : ℕ) (parts : List Part) (part : Part) (old new : IndexMap (ℕ × Bor (List ℕ)) ℕ S) → 0 < left → slice_get parts (left - 1) ≡ Some part → HasAllPorts left parts old
    → HasNumbersForPorts (left - 1) 0 part.ports old new → HasAllPorts (left - 1) parts new
parts_more left parts part old new some here all more key = at ((left - 1) == key.0) refl
  where
    at : (same : Bool) → ((left - 1) == key.0) ≡ same
        → get same_key new key ≡ cond (nat_le (left - 1) key.0) (first_from 0 (names_or_none (slice_get (port_names parts) key.0)) key.1.now) None
    at true same =
        let number : left - 1 ≡ key.0 = grind (arith, nat_tests, same) in
        let below : nat_le (left - 1) key.0 ≡ true = grind (arith, nat_tests, number) in
        more key ∙ (rw (same, below, ← number, slice_get-map (λ (p : Part). names_of_ports p.ports) parts (left - 1), here) refl)
    at false same =
        let below : nat_le (left - 1) key.0 ≡ nat_le left key.0 = grind (arith, nat_tests, same, some) in
        more key ∙ (rw (same, below) (all key))

-- the ports of all partitions are noted
pub all_parts : {S : Type 0} (left : ℕ) (parts : List Part) (numbers : IndexMap (ℕ × Bor (List ℕ)) ℕ S) → left ≤ 0 → HasAllPorts left parts numbers → HasPortNumbers parts numbers
all_parts left parts numbers none all key = let below : nat_le left key.0 ≡ true = grind (arith, nat_tests, none) in all key ∙ (rw below refl)
