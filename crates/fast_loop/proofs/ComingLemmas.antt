-- What came of a word of a run, by what its row did.
use Rattle.std.proofs.Common.{◌≡◌, ℕ, zero, suc, ◌+◌, ◌*◌, ◌%◌, ◌^◌, ◌<◌, false, List, [], ◌∷◌, length, Some, Ok, refl, sym, ap, ◌∙◌, subst, arith}
use Rattle.std.specs.Prelude.{slice_get}
use Rattle.guest_bus.specs.Access.{fetched}
use Rattle.guest_bus.specs.Memory.{Area, Memory}
use Rattle.guest_bus.specs.Words.{word_address}
use Rattle.sparc_code.specs.Decoded.{decoded}
use Rattle.sparc_step.specs.Execution.{done}
use Rattle.sparc_step.specs.Registers.{Registers, placed, register_at}
use Rattle.predecode.specs.Kept.{word_there}
use Rattle.predecode.specs.Kinds.{Does, Unmade, Leaves, Idles, Works, Compares, Sets, Moves, ReadsY, WritesY, Saves, Restores, Calls, Jumps, BranchesAlways, Branches, Annuls, AnnulsAlways, Traps, does, goes_nowhere, is_exit, is_none}
use Rattle.predecode.specs.Rows.{IsRowOf}
use Rattle.predecode.specs.lemmas.KeptLemmas.{row_stands}
use Rattle.predecode.specs.declared.rows.Row.{Row}
use Rattle.fast_loop.specs.Runs.{AreSteps, IsCall}
use Rattle.fast_loop.specs.declared.simple.Step.{Step}
use Rattle.fast_loop.specs.Turning.{calling}
use Rattle.fast_loop.specs.lemmas.Coming.{IsSlotDone}
use Rattle.fast_loop.specs.Keeping.{AreRowsOf}
use Rattle.fast_loop.specs.lemmas.Places.{at_place, at_slot}
use Rattle.fast_loop.specs.lemmas.RunsLemmas.{no_steps, one_more, one_settled, settled-call, settled-went, steps_then}
use Rattle.fast_loop.specs.lemmas.Shifts.{IsShift}
use Rattle.fast_loop.specs.lemmas.Steps.{HasCalled, HasDone, HasJumped, HasTaken, IsStep}
use Rattle.fast_loop.specs.lemmas.TurnLemmas.{turned-word}
use Rattle.fast_loop.proofs.DoesLemmas.{goes_on, goes_so}
use Rattle.fast_loop.proofs.TurningLemmas.{called_so, jumped_so, next_address, taken_so}

-- what goes anywhere has a row
none_done : (d : Does) → goes_nowhere d ≡ false → is_none d ≡ false
none_done Unmade is = absurd cc
none_done Leaves is = refl
none_done Idles is = refl
none_done (Works operation form) is = refl
none_done (Compares form) is = refl
none_done (Sets form) is = refl
none_done (Moves operation form) is = refl
none_done ReadsY is = refl
none_done WritesY is = refl
none_done Saves is = refl
none_done Restores is = refl
none_done Calls is = refl
none_done Jumps is = refl
none_done BranchesAlways is = refl
none_done Branches is = refl
none_done Annuls is = refl
none_done AnnulsAlways is = refl
none_done Traps is = refl

-- the row of a place among rows
pub with_row : {P : Type 0} (rows : List Row) (at : ℕ) → at < length rows → ((row : Row) → slice_get rows at ≡ Some row → P) → P
with_row [] at small found = absurd (omega (arith, small))
with_row (row ∷ rows) zero small found = found row refl
with_row (row ∷ rows) (suc at) small found = with_row rows at (omega (arith, small)) found

-- a place among rows
module _ (rows : List Row) (origin at : ℕ) (areas : List Area) (memory : Memory) (are : AreRowsOf rows areas memory origin) (under : at < length rows) where
  -- its address
  pub address_in : word_address origin at ≡ origin + 4 * at
  unfolding word_address
  address_in = omega (arith, are.inside, under)

  module _ (row : Row) (there : slice_get rows at ≡ Some row) where
    -- the word that stands there
    abbrev word : ℕ
    word = word_there memory (origin + 4 * at)

    stands : is_none (does row.kind) ≡ false → fetched areas memory (word_address origin at) ≡ Ok word
    stands some = ap (fetched areas memory) address_in ∙ row_stands row areas memory (origin + 4 * at) some (are.each at row there)

    spelled : is_none (does row.kind) ≡ false → IsRowOf row (decoded word)
    spelled some = (are.each at row there).spelled some

    -- it goes on to the next one, whatever that is
    pub word_done : (old new : Registers) (after : Memory) → register_at old 0 ≡ 0 → HasDone (does row.kind) row areas old new memory after → IsSlotDone origin at areas old new memory after
    word_done old new after zeroed is = λ npc.
        let some = none_done (does row.kind) (goes_on (does row.kind) row areas old new memory after is) in
        settled-went areas (placed (word_address origin at) npc old) memory (placed npc ((npc + 4) % 2 ^ 32) new) after
        (turned-word word (word_address origin at) npc areas old memory (done (placed npc ((npc + 4) % 2 ^ 32) new) after) (stands some)
        (goes_so (does row.kind) row (decoded word) areas old new memory after (spelled some) (are.each at row there).registers.form (are.each at row there).registers.rd zeroed is (word_address origin at) npc))

    -- so does one with the spill or the fill that it needs
    pub word_shifted : (old new : Registers) (after : Memory) → is_exit row.kind ≡ false → IsShift row (word_address origin at) areas old new memory after → IsSlotDone origin at areas old new memory after
    word_shifted old new after on shifts = λ npc.
        let some = none_done (does row.kind) on in
        shifts npc word (stands some) (spelled some)

    -- it goes to its delay slot, and then to a place
    pub word_taken : (displacement : ℕ) (old new : Registers) → register_at old 0 ≡ 0 → is_none (does row.kind) ≡ false → HasTaken (does row.kind) row origin at displacement old new
        → AreSteps 1 areas (at_place origin at old) memory (at_slot origin (at + 1) (at + displacement) new) memory
    word_taken displacement old new zeroed some is =
        one_more 0 areas (at_place origin at old) (at_place origin at old) (at_slot origin (at + 1) (at + displacement) new) memory memory memory (no_steps areas (at_place origin at old) memory)
        (turned-word word (word_address origin at) (word_address origin (at + 1)) areas old memory (done (at_slot origin (at + 1) (at + displacement) new) memory) (stands some)
        (taken_so (does row.kind) row (decoded word) origin at displacement areas old new memory (spelled some) (are.each at row there).registers.form zeroed is))

    -- its delay slot is annulled
    pub word_jumped : (displacement : ℕ) (old : Registers) → is_none (does row.kind) ≡ false → HasJumped (does row.kind) row displacement old
        → AreSteps 1 areas (at_place origin at old) memory (at_place origin (at + displacement) old) memory
    word_jumped displacement old some is =
        one_more 0 areas (at_place origin at old) (at_place origin at old) (at_place origin (at + displacement) old) memory memory memory (no_steps areas (at_place origin at old) memory)
        (turned-word word (word_address origin at) (word_address origin (at + 1)) areas old memory (done (at_place origin (at + displacement) old) memory) (stands some)
        (jumped_so (does row.kind) row (decoded word) origin at displacement areas old memory (spelled some) is))

    -- it calls the hypervisor
    pub word_called : (old : Registers) → register_at old 0 ≡ 0 → is_none (does row.kind) ≡ false → HasCalled (does row.kind) row old → IsCall areas (at_place origin at old) memory
    word_called old zeroed some is =
        settled-call areas (at_place origin at old) memory
        (turned-word word (word_address origin at) (word_address origin (at + 1)) areas old memory (calling (at_place origin at old) memory) (stands some)
        (called_so (does row.kind) row (decoded word) origin at areas old memory (spelled some) (are.each at row there).registers.form zeroed is))

-- a word that was done is a step, and the next word follows
pub done_step : (origin at : ℕ) (areas : List Area) (old new : Registers) (memory after : Memory) → IsSlotDone origin at areas old new memory after
    → AreSteps 1 areas (at_place origin at old) memory (at_place origin (at + 1) new) after
done_step origin at areas old new memory after is =
    subst (λ (n : ℕ). AreSteps 1 areas (at_place origin at old) memory (placed (word_address origin (at + 1)) n new) after) (next_address origin (at + 1))
    (one_settled 0 areas (at_place origin at old) (at_place origin at old) (placed (word_address origin (at + 1)) ((word_address origin (at + 1) + 4) % 2 ^ 32) new) memory memory after
    (no_steps areas (at_place origin at old) memory) (is (word_address origin (at + 1))))

-- in a delay slot a place follows
pub slot_step : (origin at to : ℕ) (areas : List Area) (old new : Registers) (memory after : Memory) → IsSlotDone origin at areas old new memory after
    → AreSteps 1 areas (at_slot origin at to old) memory (at_place origin to new) after
slot_step origin at to areas old new memory after is =
    subst (λ (n : ℕ). AreSteps 1 areas (at_slot origin at to old) memory (placed (word_address origin to) n new) after) (next_address origin to)
    (one_settled 0 areas (at_slot origin at to old) (at_slot origin at to old) (placed (word_address origin to) ((word_address origin to + 4) % 2 ^ 32) new) memory memory after
    (no_steps areas (at_slot origin at to old) memory) (is (word_address origin to)))

-- registers, memory and areas that did not change before
pub shift_from : (row : Row) (pc : ℕ) (here areas : List Area) (old mid new : Registers) (memory there after : Memory) → here ≡ areas → mid ≡ old → there ≡ memory → IsShift row pc here mid new there after → IsShift row pc areas old new memory after
shift_from row pc here areas old mid new memory there after areas_same same bytes is =
    subst (λ (a : List Area). IsShift row pc a old new memory after) areas_same
    (subst (λ (m : Memory). IsShift row pc here old new m after) bytes (subst (λ (r : Registers). IsShift row pc here r new there after) same is))

-- areas that did not change before
from_areas : (P : List Area → Type 0) (here areas : List Area) → here ≡ areas → P here → P areas
from_areas P here areas same is = subst P same is

-- after steps to a delay slot, the word in it
pub slot_then : (count origin at to : ℕ) (here areas : List Area) (core old new : Registers) (memory there after : Memory) → here ≡ areas
    → AreSteps count areas core memory (at_slot origin at to old) there → IsSlotDone origin at here old new there after → AreSteps (1 + count) areas core memory (at_place origin to new) after
slot_then count origin at to here areas core old new memory there after same steps is =
    steps_then 1 count areas core (at_slot origin at to old) (at_place origin to new) memory there after steps
    (slot_step origin at to areas old new there after (from_areas (λ (a : List Area). IsSlotDone origin at a old new there after) here areas same is))

-- where it was left
pub slot_not : (count origin at to : ℕ) (areas : List Area) (core old new : Registers) (memory there after : Memory) → new ≡ old → after ≡ there
    → AreSteps count areas core memory (at_slot origin at to old) there → AreSteps count areas core memory (at_slot origin at to new) after
slot_not count origin at to areas core old new memory there after same bytes steps =
    subst (λ (r : Registers). AreSteps count areas core memory (at_slot origin at to r) after) (sym same)
    (subst (λ (m : Memory). AreSteps count areas core memory (at_slot origin at to old) m) (sym bytes) steps)

-- what goes elsewhere has a row
taken_some : (d : Does) (row : Row) (origin at displacement : ℕ) (old new : Registers) → HasTaken d row origin at displacement old new → is_none d ≡ false
taken_some Unmade row origin at displacement old new is = absurd is
taken_some Idles row origin at displacement old new is = refl
taken_some (Works operation form) row origin at displacement old new is = refl
taken_some (Compares form) row origin at displacement old new is = refl
taken_some (Sets form) row origin at displacement old new is = refl
taken_some (Moves operation form) row origin at displacement old new is = refl
taken_some ReadsY row origin at displacement old new is = refl
taken_some WritesY row origin at displacement old new is = refl
taken_some Saves row origin at displacement old new is = refl
taken_some Restores row origin at displacement old new is = refl
taken_some Calls row origin at displacement old new is = refl
taken_some Jumps row origin at displacement old new is = refl
taken_some BranchesAlways row origin at displacement old new is = refl
taken_some Branches row origin at displacement old new is = refl
taken_some Annuls row origin at displacement old new is = refl
taken_some AnnulsAlways row origin at displacement old new is = refl
taken_some Traps row origin at displacement old new is = refl
taken_some Leaves row origin at displacement old new is = refl

jumped_some : (d : Does) (row : Row) (displacement : ℕ) (old : Registers) → HasJumped d row displacement old → is_none d ≡ false
jumped_some Unmade row displacement old is = absurd is
jumped_some Idles row displacement old is = refl
jumped_some (Works operation form) row displacement old is = refl
jumped_some (Compares form) row displacement old is = refl
jumped_some (Sets form) row displacement old is = refl
jumped_some (Moves operation form) row displacement old is = refl
jumped_some ReadsY row displacement old is = refl
jumped_some WritesY row displacement old is = refl
jumped_some Saves row displacement old is = refl
jumped_some Restores row displacement old is = refl
jumped_some Calls row displacement old is = refl
jumped_some Jumps row displacement old is = refl
jumped_some BranchesAlways row displacement old is = refl
jumped_some Branches row displacement old is = refl
jumped_some Annuls row displacement old is = refl
jumped_some AnnulsAlways row displacement old is = refl
jumped_some Traps row displacement old is = refl
jumped_some Leaves row displacement old is = refl

called_some : (d : Does) (row : Row) (old : Registers) → HasCalled d row old → is_none d ≡ false
called_some Unmade row old is = absurd is
called_some Idles row old is = refl
called_some (Works operation form) row old is = refl
called_some (Compares form) row old is = refl
called_some (Sets form) row old is = refl
called_some (Moves operation form) row old is = refl
called_some ReadsY row old is = refl
called_some WritesY row old is = refl
called_some Saves row old is = refl
called_some Restores row old is = refl
called_some Calls row old is = refl
called_some Jumps row old is = refl
called_some BranchesAlways row old is = refl
called_some Branches row old is = refl
called_some Annuls row old is = refl
called_some AnnulsAlways row old is = refl
called_some Traps row old is = refl
called_some Leaves row old is = refl

-- steps that go elsewhere
module _ (rows : List Row) (origin at : ℕ) (areas : List Area) (memory : Memory) (are : AreRowsOf rows areas memory origin) (under : at < length rows) (row : Row) (there : slice_get rows at ≡ Some row) where
  pub taken_step : (displacement : ℕ) (old new : Registers) (after : Memory) → register_at old 0 ≡ 0 → HasTaken (does row.kind) row origin at displacement old new → after ≡ memory
      → AreSteps 1 areas (at_place origin at old) memory (at_slot origin (at + 1) (at + displacement) new) after
  taken_step displacement old new after zeroed is bytes = subst (λ (m : Memory). AreSteps 1 areas (at_place origin at old) memory (at_slot origin (at + 1) (at + displacement) new) m) (sym bytes)
      (word_taken rows origin at areas memory are under row there displacement old new zeroed (taken_some (does row.kind) row origin at displacement old new is) is)

  pub jumped_step : (displacement : ℕ) (old new : Registers) (after : Memory) → HasJumped (does row.kind) row displacement old → new ≡ old → after ≡ memory
      → AreSteps 1 areas (at_place origin at old) memory (at_place origin (at + displacement) new) after
  jumped_step displacement old new after is same bytes = subst (λ (m : Memory). AreSteps 1 areas (at_place origin at old) memory (at_place origin (at + displacement) new) m) (sym bytes)
      (subst (λ (r : Registers). AreSteps 1 areas (at_place origin at old) memory (at_place origin (at + displacement) r) memory) (sym same)
      (word_jumped rows origin at areas memory are under row there displacement old (jumped_some (does row.kind) row displacement old is) is))

  pub called_step : (old new : Registers) (after : Memory) → register_at old 0 ≡ 0 → HasCalled (does row.kind) row old → new ≡ old → after ≡ memory
      → (new ≡ old) × (after ≡ memory) × IsCall areas (at_place origin at new) after
  called_step old new after zeroed is same bytes = (
    same,
    bytes,
    subst (λ (m : Memory). IsCall areas (at_place origin at new) m) (sym bytes) (subst (λ (r : Registers). IsCall areas (at_place origin at r) memory) (sym same)
        (word_called rows origin at areas memory are under row there old zeroed (called_some (does row.kind) row old is) is)),
  )

-- areas that did not change before a row was done
pub same_step : (s : Step) (row : Row) (origin at : ℕ) (here areas : List Area) (old new : Registers) (memory after : Memory) → here ≡ areas → IsStep s row origin at here old new memory after → IsStep s row origin at areas old new memory after
same_step s row origin at here areas old new memory after same is = subst (λ (a : List Area). IsStep s row origin at a old new memory after) same is
