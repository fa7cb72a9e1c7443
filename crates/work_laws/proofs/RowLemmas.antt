-- The rows on labels, on changes of a memory, and on slots.
use Rattle.std.proofs.Common.{◌≡◌, ℕ, ◌≤◌, false, List, [], ◌∷◌, length, None, refl, sym, ◌∙◌, arith}
use Rattle.std.specs.FinMap.{get, insert}
use Rattle.guest_bus.specs.Memory.{Memory}
use Rattle.guest_bus.specs.lemmas.MemoryLemmas.{get-insert_same}
use Rattle.cyclic_plans.specs.PlanClock.{here, slot_at}
use Rattle.cyclic_plans.specs.Slots.{slots_of}
use Rattle.machine_model.specs.Machine.{turn_of}
use Rattle.machine_model.specs.View.{has_number}
use Rattle.work_laws.specs.Changes.{ChangesFew}
use Rattle.work_laws.specs.rows.WorkRows.{CountedChanges, LabelsAlone, OwnersOfSlots}
use Rattle.work_laws.proofs.ChangeLemmas.{insert_few}

pub labels_alone : LabelsAlone
labels_alone = record {
  name = λ l view. refl;
  console = λ l view. refl;
  need = λ l view. refl;
  system = λ l view. refl;
  traces = λ l view. refl;
  health = λ l view. refl;
  areas = λ l view. refl;
  ports = λ l view. refl;
  image = λ l view. refl;
}

-- no address is among none
none_among : (some : List ℕ) (address : ℕ) → length some ≤ 0 → has_number some address ≡ false
none_among [] address few = refl
none_among (one ∷ some) address few = absurd (omega (arith, few))

one_more : (memory : Memory) (address byte : ℕ) → get memory address ≡ None → ChangesFew 0 memory (insert memory address byte) → ⊥
one_more memory address byte none changes =
    let same = sym (get-insert_same memory address byte address refl) ∙ changes.others address (none_among changes.addresses address changes.few) ∙ none in absurd cc

pub counted_changes : CountedChanges
counted_changes = record { most = refl; one = insert_few; some = one_more }

pub owners_of_slots : OwnersOfSlots
unfolding turn_of here slot_at slots_of
owners_of_slots = record { first = λ one other. refl; goes_on = λ one other. refl; second = λ one other. refl }
