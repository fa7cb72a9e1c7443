-- How long a slot or a gap lasts: until its end nothing else runs.
use Rattle.std.proofs.Common.{◌≡◌, ℕ, suc, ◌+◌, ◌-◌, ◌<◌, ◌≤◌, Bool, true, false, cond, min, List, [], ◌∷◌, Option, Some, None, refl, arith}
use Rattle.std.specs.Prelude.{All, IfSome, nat_lt, slice_get, map, filter, fold}
use Rattle.std.proofs.lemmas.Option.{get_or_from_slice_get, slice_get_within}
use Rattle.std.proofs.lemmas.Bool.Decides.{nat_tests}
use Rattle.xm_conf.specs.declared.plan.Slot.{Slot}
use Rattle.xm_conf.specs.Fits.{InFrame, InTurn}
use Rattle.cyclic_plans.specs.Slots.{Covers, covers, slot_from, gap_end, slot_or_gap_end, stretch_end}
use Rattle.cyclic_plans.proofs.SlotLemmas.{covers-true, covers-Covers, covers-before, covers-after, slot_from-found}

-- the slots begin at or after a moment, and each at or after the end of the one before it
abbrev pub Follow : ℕ → List Slot → Type 0
Follow low [] = Unit {0}
Follow low (slot ∷ rest) = (low ≤ slot.start) × Follow (slot.start + slot.duration) rest

-- slots in turn follow one another
follow : (low : ℕ) (slot : Slot) (rest : List Slot) → low ≤ slot.start → InTurn (slot ∷ rest) → Follow low (slot ∷ rest)
follow low slot [] above turn = (above, tt)
follow low slot (next ∷ rest) above turn =
    (above, follow (slot.start + slot.duration) next rest (turn 0 slot (omega arith)) (λ n d below. later n d below))
  where
    later : InTurn (next ∷ rest)
    later n d below = let e : suc n + 1 ≡ suc (n + 1) = omega arith in rw e at (turn (suc n) d (omega arith))

pub follow_all : (slots : List Slot) → InTurn slots → Follow 0 slots
follow_all [] turn = tt
follow_all (slot ∷ rest) turn = follow 0 slot rest (omega arith) turn

-- what is found begins at or after that moment
found_from : (low moment number : ℕ) (slots : List Slot) → Follow low slots → IfSome (slot_from moment number slots) (λ found. low ≤ found.1.start)
found_from low moment number [] follows = tt
found_from low moment number (slot ∷ rest) follows =
    at (covers moment slot) (slot_from moment (number + 1) rest) (found_from (slot.start + slot.duration) moment (number + 1) rest follows.1)
  where
    at : (b : Bool) (o : Option (ℕ × Slot)) → IfSome o (λ found. slot.start + slot.duration ≤ found.1.start) → IfSome (cond b (Some (number, slot)) o) (λ found. low ≤ found.1.start)
    at true o later = follows.0
    at false None later = tt
    at false (Some found) later = let here = follows.0 in omega (arith, later)

-- the slot that runs is found until its end
slot_stays : (low moment later number : ℕ) (slots : List Slot) → Follow low slots → moment ≤ later
    → IfSome (slot_from moment number slots) (λ found. later < found.1.start + found.1.duration → slot_from later number slots ≡ Some found)
slot_stays low moment later number [] follows goes = tt
slot_stays low moment later number (slot ∷ rest) follows goes =
    at (covers moment slot) refl (slot_from moment (number + 1) rest)
    (slot_stays (slot.start + slot.duration) moment later (number + 1) rest follows.1 goes)
    (found_from (slot.start + slot.duration) moment (number + 1) rest follows.1)
    (slot_from-found moment (number + 1) rest)
  where
    at : (b : Bool) → covers moment slot ≡ b → (o : Option (ℕ × Slot))
        → IfSome o (λ found. later < found.1.start + found.1.duration → slot_from later (number + 1) rest ≡ Some found)
        → IfSome o (λ found. slot.start + slot.duration ≤ found.1.start)
        → IfSome o (λ found. (number + 1 ≤ found.0) × (slice_get rest (found.0 - (number + 1)) ≡ Some found.1) × Covers moment found.1)
        → IfSome (cond b (Some (number, slot)) o) (λ found. later < found.1.start + found.1.duration → slot_from later number (slot ∷ rest) ≡ Some found)
    at true is o stays above there = λ below. rw (covers-Covers later slot (let runs = covers-true moment slot is in omega arith) below) refl
    at false is None stays above there = tt
    at false is (Some found) stays above there = λ below. rw (covers-after later slot (let runs = there.2 in omega (arith, above))) (stays below)

-- the least of a start and more numbers is at most the start
fold_min-at_most : (least : ℕ) (xs : List ℕ) → fold min least xs ≤ least
fold_min-at_most least [] = omega arith
fold_min-at_most least (x ∷ xs) = omega (arith, fold_min-at_most (min least x) xs)

-- a gap ends in its frame
pub gap_end-inside : (frame moment : ℕ) (slots : List Slot) → gap_end frame moment slots ≤ frame
gap_end-inside frame moment slots = fold_min-at_most frame (filter (nat_lt moment) (map (λ slot. slot.start) slots))

-- a gap ends after the moment
pub gap_end-past : (frame moment : ℕ) (slots : List Slot) → moment < frame → moment < gap_end frame moment slots
gap_end-past frame moment [] below = below
gap_end-past frame moment (slot ∷ rest) below = at (nat_lt moment slot.start) refl (λ least. gap_end-past least moment rest)
  where
    at : (b : Bool) → nat_lt moment slot.start ≡ b → ((least : ℕ) → moment < least → moment < gap_end least moment rest)
        → moment < fold min frame (cond b (slot.start ∷ filter (nat_lt moment) (map (λ slot. slot.start) rest)) (filter (nat_lt moment) (map (λ slot. slot.start) rest)))
    at true is later = later (min frame slot.start) (grind (arith, nat_tests))
    at false is later = later frame below

-- nothing is found until the end of the gap
gap_stays : (frame moment later number : ℕ) (slots : List Slot) → moment ≤ later → later < gap_end frame moment slots
    → slot_from moment number slots ≡ None → slot_from later number slots ≡ None
gap_stays frame moment later number [] goes below none = refl
gap_stays frame moment later number (slot ∷ rest) goes below none =
    at (covers moment slot) refl none (nat_lt moment slot.start) refl below
    (λ least goes_on. gap_stays least moment later (number + 1) rest goes goes_on)
  where
    ended : covers moment slot ≡ false → nat_lt moment slot.start ≡ false → slot.start + slot.duration ≤ later
    ended is begun = grind (arith, nat_tests)

    at : (b : Bool) → covers moment slot ≡ b → cond b (Some (number, slot)) (slot_from moment (number + 1) rest) ≡ None
        → (past : Bool) → nat_lt moment slot.start ≡ past
        → later < fold min frame (cond past (slot.start ∷ filter (nat_lt moment) (map (λ slot. slot.start) rest)) (filter (nat_lt moment) (map (λ slot. slot.start) rest)))
        → ((least : ℕ) → later < gap_end least moment rest → slot_from moment (number + 1) rest ≡ None → slot_from later (number + 1) rest ≡ None)
        → slot_from later number (slot ∷ rest) ≡ None
    at true is none past before below stays = absurd (let never : ⊥ = cc in never)
    at false is none true before below stays =
        let least : gap_end (min frame slot.start) moment rest ≤ min frame slot.start = gap_end-inside (min frame slot.start) moment rest in
        rw (covers-before later slot (omega arith)) (stays (min frame slot.start) below none)
    at false is none false begun below stays = rw (covers-after later slot (ended is begun)) (stays frame below none)

-- a slot or a gap ends after the moment
pub stretch_end-past : (frame moment : ℕ) (slots : List Slot) → moment < frame → moment < stretch_end frame moment slots
stretch_end-past frame moment slots below = at (slot_from moment 0 slots) (slot_from-found moment 0 slots)
  where
    at : (o : Option (ℕ × Slot)) → IfSome o (λ found. (0 ≤ found.0) × (slice_get slots (found.0 - 0) ≡ Some found.1) × Covers moment found.1) → moment < slot_or_gap_end frame moment slots o
    at None there = gap_end-past frame moment slots below
    at (Some found) there = there.2.1

-- a slot or a gap ends in its frame
pub stretch_end-inside : (frame moment : ℕ) (slots : List Slot) → All (InFrame frame) slots → stretch_end frame moment slots ≤ frame
stretch_end-inside frame moment slots inside = at (slot_from moment 0 slots) (slot_from-found moment 0 slots)
  where
    at : (o : Option (ℕ × Slot)) → IfSome o (λ found. (0 ≤ found.0) × (slice_get slots (found.0 - 0) ≡ Some found.1) × Covers moment found.1) → slot_or_gap_end frame moment slots o ≤ frame
    at None there = gap_end-inside frame moment slots
    at (Some found) there =
        let is = get_or_from_slice_get slots (found.0 - 0) found.1 found.1 there.1 in
        (rw is at (inside (found.0 - 0) found.1 (slice_get_within slots (found.0 - 0) found.1 there.1))).inside

-- until the end of a slot or a gap the same is found
pub stretch_end-alike : (frame moment later : ℕ) (slots : List Slot) → InTurn slots → moment ≤ later → later < stretch_end frame moment slots
    → slot_from later 0 slots ≡ slot_from moment 0 slots
stretch_end-alike frame moment later slots turn goes = at (slot_from moment 0 slots) refl (slot_stays 0 moment later 0 slots (follow_all slots turn) goes)
  where
    at : (o : Option (ℕ × Slot)) → slot_from moment 0 slots ≡ o
        → IfSome o (λ found. later < found.1.start + found.1.duration → slot_from later 0 slots ≡ Some found)
        → later < slot_or_gap_end frame moment slots o → slot_from later 0 slots ≡ o
    at None is stays below = gap_stays frame moment later 0 slots goes below is
    at (Some found) is stays below = stays below
