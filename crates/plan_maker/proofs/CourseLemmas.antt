-- The slots of a course: which ticks they give, and that they follow one another.
use Rattle.std.proofs.Common.{◌≡◌, ℕ, zero, suc, ◌+◌, ◌<◌, ◌≤◌, Bool, true, false, cond, ◌||◌, List, [], ◌∷◌, ◌++◌, length, Option, Some, None, option_to_list, ap, sym, ◌∙◌, subst, refl, arith}
use Rattle.std.specs.Prelude.{IfSome}
use Rattle.std.specs.List.{list_any}
use Rattle.std.proofs.lemmas.List.Folds.{list_any-append}
use Rattle.std.proofs.lemmas.Bool.Decides.{nat_tests}
use Rattle.xm_conf.specs.declared.plan.Slot.{Slot}
use Rattle.xm_conf.specs.Fits.{InFrame, InTurn}
use Rattle.plan_maker.specs.Course.{Course, slots_so_far, continues, run_slot, run_after, with_run}
use Rattle.plan_maker.specs.Served.{gives, runs_in}
use Rattle.plan_maker.proofs.EachLemmas.{Each}

or_false : (a : Bool) → (a || false) ≡ a
or_false true = refl
or_false false = refl

or_three : (a b c : Bool) → (a || (b || c)) ≡ ((a || b) || c)
or_three true b c = refl
or_three false b c = refl

-- a slot that lasts longer gives the ticks of a run, too
gives_longer : (q part tick count t : ℕ) (slot : Slot) → continues part tick slot ≡ true
    → gives q t (record slot { duration = slot.duration + count }) ≡ (gives q t slot || gives q t (run_slot part tick count))
gives_longer q part tick count t slot is = grind (arith, nat_tests)

-- one slot after others
runs_last : (q t : ℕ) (slots : List Slot) (slot : Slot) → runs_in q (slots ++ slot ∷ []) t ≡ (runs_in q slots t || gives q t slot)
runs_last q t slots slot = list_any-append (gives q t) slots (slot ∷ []) ∙ ap (λ b. list_any (gives q t) slots || b) (or_false (gives q t slot))

-- a run gives its ticks to its partition, and leaves the others as they were
pub runs_after : (q part tick count t : ℕ) (course : Course)
    → runs_in q (slots_so_far (with_run part tick count course)) t ≡ (runs_in q (slots_so_far course) t || gives q t (run_slot part tick count))
runs_after q part tick count t course = at course.ended course.last
  where
    next : (ended : List Slot) (slot : Slot) (b : Bool) → continues part tick slot ≡ b
        → runs_in q (slots_so_far (cond b (record { ended = ended; last = Some (record slot { duration = slot.duration + count }) }) (record { ended = ended ++ slot ∷ []; last = Some (run_slot part tick count) }))) t
        ≡ (runs_in q (ended ++ slot ∷ []) t || gives q t (run_slot part tick count))
    next ended slot true is =
        runs_last q t ended (record slot { duration = slot.duration + count })
        ∙ ap (λ b. runs_in q ended t || b) (gives_longer q part tick count t slot is)
        ∙ or_three (runs_in q ended t) (gives q t slot) (gives q t (run_slot part tick count))
        ∙ ap (λ b. b || gives q t (run_slot part tick count)) (sym (runs_last q t ended slot))
    next ended slot false is = runs_last q t (ended ++ slot ∷ []) (run_slot part tick count)

    at : (ended : List Slot) (last : Option Slot)
        → runs_in q (slots_so_far (run_after part tick count ended last)) t ≡ (runs_in q (ended ++ option_to_list last) t || gives q t (run_slot part tick count))
    at ended None =
        runs_last q t ended (run_slot part tick count)
        ∙ ap (λ b. b || gives q t (run_slot part tick count)) (sym (or_false (runs_in q ended t)) ∙ sym (list_any-append (gives q t) ended []))
    at ended (Some slot) = next ended slot (continues part tick slot) refl

-- the slots begin at or after one tick, follow one another, and end at or before another tick
abbrev pub Laid : ℕ → ℕ → List Slot → Type 0
Laid low high [] = low ≤ high
Laid low high (slot ∷ rest) = (low ≤ slot.start) × (0 < slot.duration) × Laid (slot.start + slot.duration) high rest

-- slots end at or after they begin
pub laid_ends : (low high : ℕ) (slots : List Slot) → Laid low high slots → low ≤ high
laid_ends low high [] laid = laid
laid_ends low high (slot ∷ rest) laid =
    let rest_ends : slot.start + slot.duration ≤ high = laid_ends (slot.start + slot.duration) high rest laid.2 in
    let begins : low ≤ slot.start = laid.0 in
    omega arith

-- from their end on the slots give no ticks
pub runs_no_more : (q low high t : ℕ) (slots : List Slot) → Laid low high slots → high ≤ t → runs_in q slots t ≡ false
runs_no_more q low high t [] laid past = refl
runs_no_more q low high t (slot ∷ rest) laid past =
    let later : runs_in q rest t ≡ false = runs_no_more q (slot.start + slot.duration) high t rest laid.2 past in
    let ends : slot.start + slot.duration ≤ high = laid_ends (slot.start + slot.duration) high rest laid.2 in
    rw (gives_not q t slot (omega arith), later) refl
  where
    gives_not : (q t : ℕ) (slot : Slot) → slot.start + slot.duration ≤ t → gives q t slot ≡ false
    gives_not q t slot past = grind (arith, nat_tests)

-- one more slot after others
laid_push : (low high end : ℕ) (slots : List Slot) (slot : Slot) → Laid low high slots → high ≤ slot.start → 0 < slot.duration
    → slot.start + slot.duration ≤ end → Laid low end (slots ++ slot ∷ [])
laid_push low high end [] slot laid after some inside = (let begins : low ≤ high = laid in omega arith, some, inside)
laid_push low high end (first ∷ rest) slot laid after some inside =
    (laid.0, laid.1, laid_push (first.start + first.duration) high end rest slot laid.2 after some inside)

-- a longer last slot
laid_longer : (low high count : ℕ) (slots : List Slot) (slot : Slot) → Laid low high (slots ++ slot ∷ []) → slot.start + slot.duration ≡ high
    → Laid low (high + count) (slots ++ (record slot { duration = slot.duration + count }) ∷ [])
laid_longer low high count [] slot laid ends = (laid.0, let some : 0 < slot.duration = laid.1 in omega arith, omega arith)
laid_longer low high count (first ∷ rest) slot laid ends =
    (laid.0, laid.1, laid_longer (first.start + first.duration) high count rest slot laid.2 ends)

-- slots that end by a tick end by a later one
pub laid_later : (low high end : ℕ) (slots : List Slot) → Laid low high slots → high ≤ end → Laid low end slots
laid_later low high end [] laid later = let ends : low ≤ high = laid in omega arith
laid_later low high end (slot ∷ rest) laid later = (laid.0, laid.1, laid_later (slot.start + slot.duration) high end rest laid.2 later)

append_none : (slots : List Slot) → slots ++ [] ≡ slots
append_none [] = refl
append_none (slot ∷ rest) = ap (λ (slots : List Slot). slot ∷ slots) (append_none rest)

-- a run from a tick on follows the slots before it
pub laid_after : (part tick count : ℕ) (course : Course) → 0 < count → Laid 0 tick (slots_so_far course)
    → Laid 0 (tick + count) (slots_so_far (with_run part tick count course))
laid_after part tick count course some = at course.ended course.last
  where
    next : (ended : List Slot) (slot : Slot) (b : Bool) → continues part tick slot ≡ b → Laid 0 tick (ended ++ slot ∷ [])
        → Laid 0 (tick + count) (slots_so_far (cond b (record { ended = ended; last = Some (record slot { duration = slot.duration + count }) }) (record { ended = ended ++ slot ∷ []; last = Some (run_slot part tick count) })))
    next ended slot true is laid = laid_longer 0 tick count ended slot laid (let ends : slot.start + slot.duration ≡ tick = grind (arith, nat_tests) in ends)
    next ended slot false is laid = laid_push 0 tick (tick + count) (ended ++ slot ∷ []) (run_slot part tick count) laid (omega arith) some (omega arith)

    at : (ended : List Slot) (last : Option Slot) → Laid 0 tick (ended ++ option_to_list last) → Laid 0 (tick + count) (slots_so_far (run_after part tick count ended last))
    at ended None laid =
        laid_push 0 tick (tick + count) ended (run_slot part tick count) (subst (λ (slots : List Slot). Laid 0 tick slots) (append_none ended) laid) (omega arith) some (omega arith)
    at ended (Some slot) laid = next ended slot (continues part tick slot) refl laid

-- the last of the slots ends by their end
laid_last : (low high : ℕ) (slots : List Slot) (slot : Slot) → Laid low high (slots ++ slot ∷ []) → slot.start + slot.duration ≤ high
laid_last low high [] slot laid = laid.2
laid_last low high (first ∷ rest) slot laid = laid_last (first.start + first.duration) high rest slot laid.2

pub last_ends : (tick : ℕ) (course : Course) → Laid 0 tick (slots_so_far course) → IfSome course.last (λ slot. slot.start + slot.duration ≤ tick)
last_ends tick course = at course.ended course.last
  where
    at : (ended : List Slot) (last : Option Slot) → Laid 0 tick (ended ++ option_to_list last) → IfSome last (λ slot. slot.start + slot.duration ≤ tick)
    at ended None laid = tt
    at ended (Some slot) laid = laid_last 0 tick ended slot laid

-- there are at most as many slots as ticks
pub laid_few : (low high : ℕ) (slots : List Slot) → Laid low high slots → length slots + low ≤ high
laid_few low high [] laid = let ends : low ≤ high = laid in omega arith
laid_few low high (slot ∷ rest) laid =
    let few : length rest + (slot.start + slot.duration) ≤ high = laid_few (slot.start + slot.duration) high rest laid.2 in
    let begins : low ≤ slot.start = laid.0 in
    let some : 0 < slot.duration = laid.1 in
    omega arith

-- each slot lies in the frame
pub laid_inside : (low frame : ℕ) (slots : List Slot) → Laid low frame slots → Each (InFrame frame) slots
laid_inside low frame [] laid = tt
laid_inside low frame (slot ∷ rest) laid =
    (record { lasts = laid.1; inside = laid_ends (slot.start + slot.duration) frame rest laid.2 }, laid_inside (slot.start + slot.duration) frame rest laid.2)

-- each slot begins at or after the end of the one before it
pub laid_in_turn : (low high : ℕ) (slots : List Slot) → Laid low high slots → InTurn slots
laid_in_turn low high [] laid = λ n d below. absurd (omega arith)
laid_in_turn low high (slot ∷ []) laid = λ n d below. absurd (omega arith)
laid_in_turn low high (slot ∷ next ∷ rest) laid = at (laid_in_turn (slot.start + slot.duration) high (next ∷ rest) laid.2)
  where
    at : InTurn (next ∷ rest) → InTurn (slot ∷ next ∷ rest)
    at later zero d below = laid.2.0
    at later (suc n) d below = let e : suc n + 1 ≡ suc (n + 1) = omega arith in rw e (later n d (omega arith))
