-- Names with their numbers: of each name that of the first that has it.
use Rattle.std.specs.Prelude.{◌≡◌, ℕ, ◌==◌, ◌&&◌, cond, true, nat_le, List, slice_get, Bool, Option, None}
use Rattle.std.specs.Borrow.{Bor}
use Rattle.std.specs.List.{position_from}
use Rattle.std.specs.Str.{bytes_eq}
use Rattle.indexmap.specs.IndexMap.{IndexMap, get}
use Rattle.xm_conf.specs.Configuration.{Part}
use Rattle.xm_conf.specs.declared.port.Port.{Port}
use Rattle.xmcf_check.specs.Described.{names_of_ports, names_or_none, port_names}

-- the number of the first with the name, where the names begin with the number n
abbrev pub first_from : ℕ → List (List ℕ) → List ℕ → Option ℕ
first_from n names name = position_from (λ other. bytes_eq other name) n names

-- whether two names are one
abbrev pub same_name : Bor (List ℕ) → Bor (List ℕ) → Bool
same_name a b = bytes_eq a.now b.now

-- the map has for each name the number of the first that has it, where the names begin with the number n
abbrev pub HasFirsts : {S : Type 0} → ℕ → List (List ℕ) → IndexMap (Bor (List ℕ)) ℕ S → Type 0
HasFirsts n names numbers = (name : Bor (List ℕ)) → get same_name numbers name ≡ first_from n names name.now

-- whether two names of two partitions are one
abbrev pub same_key : ℕ × Bor (List ℕ) → ℕ × Bor (List ℕ) → Bool
same_key a b = (a.0 == b.0) && bytes_eq a.1.now b.1.now

-- the new map has the ports' numbers for the names of one partition, and for those of all others what the old one has
abbrev pub HasNumbersForPorts : {S : Type 0} → ℕ → ℕ → List Port → IndexMap (ℕ × Bor (List ℕ)) ℕ S → IndexMap (ℕ × Bor (List ℕ)) ℕ S → Type 0
HasNumbersForPorts part n ports old new =
    (key : ℕ × Bor (List ℕ)) → get same_key new key ≡ cond (part == key.0) (first_from n (names_of_ports ports) key.1.now) (get same_key old key)

-- the map has no names of the partition
abbrev pub HasNone : {S : Type 0} → ℕ → IndexMap (ℕ × Bor (List ℕ)) ℕ S → Type 0
HasNone part numbers = (key : ℕ × Bor (List ℕ)) → (part == key.0) ≡ true → get same_key numbers key ≡ None

-- the map has the number of each port of the partitions from the number n on
abbrev pub HasAllPorts : {S : Type 0} → ℕ → List Part → IndexMap (ℕ × Bor (List ℕ)) ℕ S → Type 0
HasAllPorts n parts numbers =
    (key : ℕ × Bor (List ℕ)) → get same_key numbers key ≡ cond (nat_le n key.0) (first_from 0 (names_or_none (slice_get (port_names parts) key.0)) key.1.now) None

-- the map has the number of each port of all partitions
abbrev pub HasPortNumbers : {S : Type 0} → List Part → IndexMap (ℕ × Bor (List ℕ)) ℕ S → Type 0
HasPortNumbers parts numbers =
    (key : ℕ × Bor (List ℕ)) → get same_key numbers key ≡ first_from 0 (names_or_none (slice_get (port_names parts) key.0)) key.1.now
