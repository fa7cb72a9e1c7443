-- The search for the slot of a moment: what it finds runs then, and it finds nothing in a gap alone.
use Rattle.std.proofs.Common.{◌≡◌, ℕ, zero, suc, ◌+◌, ◌-◌, ◌<◌, ◌≤◌, Bool, true, false, cond, List, [], ◌∷◌, Option, Some, None, refl, subst, arith}
use Rattle.std.specs.Prelude.{IfSome, slice_get}
use Rattle.std.proofs.lemmas.Bool.Decides.{nat_tests}
use Rattle.xm_conf.specs.declared.plan.Slot.{Slot}
use Rattle.cyclic_plans.specs.Slots.{Covers, covers, slot_from, IsGap}

-- a slot that passes the test runs
pub covers-true : (moment : ℕ) (slot : Slot) → covers moment slot ≡ true → Covers moment slot
covers-true moment slot is = (grind (arith, nat_tests), grind (arith, nat_tests))

-- a slot that runs passes the test
pub covers-Covers : (moment : ℕ) (slot : Slot) → slot.start ≤ moment → moment < slot.start + slot.duration → covers moment slot ≡ true
covers-Covers moment slot begun ends = grind (arith, nat_tests)

-- a slot that has not begun fails the test
pub covers-before : (moment : ℕ) (slot : Slot) → moment < slot.start → covers moment slot ≡ false
covers-before moment slot before = grind (arith, nat_tests)

-- a slot that has ended fails the test
pub covers-after : (moment : ℕ) (slot : Slot) → slot.start + slot.duration ≤ moment → covers moment slot ≡ false
covers-after moment slot after = grind (arith, nat_tests)

-- what is found has its number, and runs
pub slot_from-found : (moment number : ℕ) (slots : List Slot)
    → IfSome (slot_from moment number slots) (λ found. (number ≤ found.0) × (slice_get slots (found.0 - number) ≡ Some found.1) × Covers moment found.1)
slot_from-found moment number [] = tt
slot_from-found moment number (slot ∷ rest) = at (covers moment slot) refl (slot_from moment (number + 1) rest) (slot_from-found moment (number + 1) rest)
  where
    at : (b : Bool) → covers moment slot ≡ b → (o : Option (ℕ × Slot))
        → IfSome o (λ found. (number + 1 ≤ found.0) × (slice_get rest (found.0 - (number + 1)) ≡ Some found.1) × Covers moment found.1)
        → IfSome (cond b (Some (number, slot)) o) (λ found. (number ≤ found.0) × (slice_get (slot ∷ rest) (found.0 - number) ≡ Some found.1) × Covers moment found.1)
    at true is o later =
        let first : 0 ≡ number - number = omega arith in
        (omega arith, subst (λ (k : ℕ). slice_get (slot ∷ rest) k ≡ Some slot) first refl, covers-true moment slot is)
    at false is None later = tt
    at false is (Some found) later =
        let past : number + 1 ≤ found.0 = later.0 in
        let next : suc (found.0 - (number + 1)) ≡ found.0 - number = omega arith in
        (omega arith, subst (λ (k : ℕ). slice_get (slot ∷ rest) k ≡ Some found.1) next later.1, later.2)

-- nothing is found where no slot runs
pub slot_from-gap : (moment number : ℕ) (slots : List Slot) → IsGap moment slots → slot_from moment number slots ≡ None
slot_from-gap moment number [] gap = refl
slot_from-gap moment number (slot ∷ rest) gap =
    at (covers moment slot) refl (slot_from-gap moment (number + 1) rest (λ k d below. gap (suc k) d (omega arith)))
  where
    at : (b : Bool) → covers moment slot ≡ b → slot_from moment (number + 1) rest ≡ None → cond b (Some (number, slot)) (slot_from moment (number + 1) rest) ≡ None
    at true is later = absurd (gap 0 slot (omega arith) (covers-true moment slot is))
    at false is later = later

-- no slot runs where nothing is found
pub slot_from-none : (moment number : ℕ) (slots : List Slot) → slot_from moment number slots ≡ None → IsGap moment slots
slot_from-none moment number [] none = λ k d below. absurd (omega arith)
slot_from-none moment number (slot ∷ rest) none = at (covers moment slot) refl none (λ later. slot_from-none moment (number + 1) rest later)
  where
    each : covers moment slot ≡ false → IsGap moment rest → IsGap moment (slot ∷ rest)
    each is gap zero d below = λ runs. (let never : ⊥ = cc (covers-Covers moment slot runs.0 runs.1) in never)
    each is gap (suc k) d below = gap k d (omega arith)

    at : (b : Bool) → covers moment slot ≡ b → cond b (Some (number, slot)) (slot_from moment (number + 1) rest) ≡ None
        → (slot_from moment (number + 1) rest ≡ None → IsGap moment rest) → IsGap moment (slot ∷ rest)
    at true is none later = absurd (let never : ⊥ = cc in never)
    at false is none later = each is (later none)
