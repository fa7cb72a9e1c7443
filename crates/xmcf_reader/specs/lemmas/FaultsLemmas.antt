-- Lemmas on the first of faults.
use Rattle.std.proofs.Common.{◌≡◌, Bool, true, false, cond, List, [], ◌∷◌, ◌++◌, map, filter, Some, None, inl, inr, refl, ap}
use Rattle.std.specs.List.{find}
use Rattle.xmcf_reader.specs.lemmas.FaultsTerms.{IsFirst}
use Rattle.xmcf_reader.specs.declared.fault.ReadFault.{ReadFault}
use Rattle.xmcf_reader.specs.declared.fault.ReadFault.TheVariants as fault

-- where none is found, none passes
pub none_passes : {X : Type 0} (test : X → Bool) (fault_of : X → ReadFault) (xs : List X) → None ≡ find test xs → map fault_of (filter test xs) ≡ []
none_passes test fault_of [] e = refl
none_passes {X} test fault_of (x ∷ xs) e = at (test x) e (none_passes test fault_of xs)
  where
    at : (here : Bool) → None ≡ cond here (Some x) (find test xs) → (None ≡ find test xs → map fault_of (filter test xs) ≡ [])
        → map fault_of (cond here (x ∷ filter test xs) (filter test xs)) ≡ []
    at true f more = cc
    at false f more = more f

-- the first that is found is the first that passes
pub first_passes : {X : Type 0} (test : X → Bool) (fault_of : X → ReadFault) (xs : List X) (x : X) → Some x ≡ find test xs → IsFirst (fault_of x) (map fault_of (filter test xs))
first_passes test fault_of [] x e = cc
first_passes {X} test fault_of (y ∷ ys) x e = at (test y) e (first_passes test fault_of ys x)
  where
    at : (here : Bool) → Some x ≡ cond here (Some y) (find test ys) → (Some x ≡ find test ys → IsFirst (fault_of x) (map fault_of (filter test ys)))
        → IsFirst (fault_of x) (map fault_of (cond here (y ∷ filter test ys) (filter test ys)))
    at true f more = let same : x ≡ y = cc in inr (ap fault_of same)
    at false f more = more f

-- out of memory may always be the answer, whatever is broken
pub memory_first : (one : ReadFault) (faults : List ReadFault) → one ≡ fault.Memory → IsFirst one faults
memory_first one [] e = e
memory_first one (other ∷ others) e = inl e

-- the first of some faults is the first of them and more
pub first_more : (one : ReadFault) (some more : List ReadFault) → IsFirst one some → IsFirst one (some ++ more)
first_more one [] more e = memory_first one more e
first_more one (other ∷ others) more e = e
