-- The machine that has the values of a file is the one that was saved.
use Rattle.std.proofs.Common.{◌≡◌, ℕ, zero, suc, ◌<◌, ◌≤◌, ◌^◌, List, [], ◌∷◌, length, map, take, Vec, refl, ap, ◌∙◌, arith}
use Rattle.std.specs.Prelude.{IfSome, slice_get, slice_index_or}
use Rattle.std.specs.Global.{Global}
use Rattle.guest_memory.specs.Loading.{memory_areas}
use Rattle.loaded_system.specs.System as loaded_system
use Rattle.machine_model.specs.Lists.{each}
use Rattle.machine_model.specs.Partition.{PartitionState, areas_of, loaded_memory}
use Rattle.machine_model.specs.View.{PartitionView, part_of, view_of}
use Rattle.saved_machines.specs.Restorable.{IsRestorable, IsRestorablePart}
use Rattle.saved_machines.specs.Saved.{SavedHead, SavedPartition}
use Rattle.saved_machines.specs.Saving as saving
use Rattle.saved_machines.specs.Saving.{machine_saved, with_area_pages}
use Rattle.saved_machines.specs.Values.{MachineValues, PartValues, machine_of_values, part_of_values, parts_of_values}
use Rattle.system_state.specs.State.{with_inputs}
use Rattle.xm_conf.specs.Configuration.{Conf}
use Rattle.machine_restore.specs.lemmas.Values.{ArePartValues, AreValues, restored, restored_part}

-- there are no more partitions in a file than values, and than words
pub few_values : (values : List PartValues) (words : List (List ℕ)) → length (parts_of_values values words) ≤ length values
few_values [] words = omega arith
few_values (one ∷ values) [] = omega arith
few_values (one ∷ values) (own ∷ words) = omega (arith, few_values values words)

few_given : (values : List PartValues) (words : List (List ℕ)) → length (parts_of_values values words) ≤ length words
few_given [] words = omega arith
few_given (one ∷ values) [] = omega arith
few_given (one ∷ values) (own ∷ words) = omega (arith, few_given values words)

-- what holds of a partition of a file holds of its values, and of its words
of_values : (P : SavedPartition → Type 0) (Q : PartValues → Type 0) (values : List PartValues) (words : List (List ℕ)) (p : ℕ) → ((one : PartValues) (own : List ℕ) → P (part_of_values one own) → Q one)
    → p < length (parts_of_values values words) → IfSome (slice_get (parts_of_values values words) p) P → IfSome (slice_get values p) Q
of_values P Q [] words p gives below held = absurd (omega (arith, below))
of_values P Q (one ∷ values) [] p gives below held = absurd (omega (arith, below))
of_values P Q (one ∷ values) (own ∷ words) zero gives below held = gives one own held
of_values P Q (one ∷ values) (own ∷ words) (suc p) gives below held = of_values P Q values words p gives (omega (arith, below)) held

of_given : (P : SavedPartition → Type 0) (values : List PartValues) (words : List (Vec ℕ Global)) (p : ℕ) → ((one : PartValues) (own : List ℕ) → P (part_of_values one own) → length own < 2 ^ 32)
    → p < length (parts_of_values values (map (λ own. own.items) words)) → IfSome (slice_get (parts_of_values values (map (λ own. own.items) words)) p) P → IfSome (slice_get words p) (λ own. length own.items < 2 ^ 32)
of_given P [] words p gives below held = absurd (omega (arith, below))
of_given P (one ∷ values) [] p gives below held = absurd (omega (arith, below))
of_given P (one ∷ values) (own ∷ words) zero gives below held = gives one own.items held
of_given P (one ∷ values) (own ∷ words) (suc p) gives below held = of_given P values words p gives (omega (arith, below)) held

-- so the values of a file that can be restored are those of a machine of the configuration
part_values : (conf : Conf) (head : SavedHead) (p : ℕ) (one : PartValues) (own : List ℕ) → IsRestorablePart conf head p (part_of_values one own) → ArePartValues (memory_areas (part_of conf p)) one
part_values conf head p one own is = record {
  hardware_timer = is.hardware_timer;
  execution_timer = is.execution_timer;
  traces = is.traces;
  health = is.health;
  pages = is.pages;
}

pub values_restorable : (conf : Conf) (container : List ℕ) (values : MachineValues) (words : List (List ℕ)) → IsRestorable conf (machine_of_values container values words) → AreValues conf values
values_restorable conf container values words is = record {
  counted = omega (arith, few_values values.parts words, is.counted);
  parts = λ p below. of_values (IsRestorablePart conf (machine_of_values container values words).head p) (ArePartValues (memory_areas (part_of conf p))) values.parts words p
      (part_values conf (machine_of_values container values words).head p) (omega (arith, below, is.counted)) (is.parts p);
  channels = is.channels;
  contents = is.contents;
}

-- there are words for each partition, and a word counts them
pub given_enough : (conf : Conf) (container : List ℕ) (values : MachineValues) (words : List (List ℕ)) → IsRestorable conf (machine_of_values container values words) → length conf.parts ≤ length words
given_enough conf container values words is = omega (arith, few_given values.parts words, is.counted)

pub given_few : (conf : Conf) (container : List ℕ) (values : MachineValues) (words : List (Vec ℕ Global)) (p : ℕ) → IsRestorable conf (machine_of_values container values (map (λ own. own.items) words)) → p < length conf.parts
    → IfSome (slice_get words p) (λ own. length own.items < 2 ^ 32)
given_few conf container values words p is below =
    of_given (IsRestorablePart conf (machine_of_values container values (map (λ own. own.items) words)).head p) values.parts words p (λ one own part. part.inputs) (omega (arith, below, is.counted)) (is.parts p)

-- the words of a file
words_saved : (n : ℕ) (values : List PartValues) (words : List (List ℕ)) → length (parts_of_values values words) ≡ n → take n words ≡ map (λ part. part.store.inputs) (parts_of_values values words)
words_saved zero [] words counted = refl
words_saved zero (one ∷ values) [] counted = refl
words_saved zero (one ∷ values) (own ∷ words) counted = absurd (omega (arith, counted))
words_saved (suc n) [] words counted = absurd (omega (arith, counted))
words_saved (suc n) (one ∷ values) [] counted = absurd (omega (arith, counted))
words_saved (suc n) (one ∷ values) (own ∷ words) counted = ap (λ (rest : List (List ℕ)). own ∷ rest) (words_saved n values words (omega (arith, counted)))

-- a partition of a file
part_saved : (view other : PartitionView) (one : PartValues) (own : List ℕ) → loaded_memory view ≡ loaded_memory other → view.inputs ≡ own → restored_part view one ≡ saving.restored_part other (part_of_values one own)
unfolding saving.restored_part
part_saved view other one own memories words = λ i. record {
  core = one.core;
  memory = with_area_pages (memories i) one.pages;
  traps = one.traps;
  clocks = one.clocks;
  state = one.state;
  resets = one.resets;
  reset_status = one.reset_status;
  made = one.made;
  traces = one.traces;
  health = one.health;
  inputs = words i;
}

-- its partitions
parts_saved : (n : ℕ) (values : List PartValues) (words : List (List ℕ)) (view other : ℕ → PartitionView) → ((q : ℕ) → loaded_memory (view q) ≡ loaded_memory (other q)) → ((q : ℕ) → (view q).inputs ≡ slice_index_or (take n words) q [])
    → length (parts_of_values values words) ≡ n → each (λ q. restored_part (view q)) (take n values) ≡ each (λ q. saving.restored_part (other q)) (parts_of_values values words)
parts_saved zero [] words view other memories given counted = refl
parts_saved zero (one ∷ values) [] view other memories given counted = refl
parts_saved zero (one ∷ values) (own ∷ words) view other memories given counted = absurd (omega (arith, counted))
parts_saved (suc n) [] words view other memories given counted = absurd (omega (arith, counted))
parts_saved (suc n) (one ∷ values) [] view other memories given counted = absurd (omega (arith, counted))
parts_saved (suc n) (one ∷ values) (own ∷ words) view other memories given counted =
    ap (λ (first : PartitionState). first ∷ each (λ q. restored_part (view (suc q))) (take n values)) (part_saved (view 0) (other 0) one own (memories 0) (given 0))
    ∙ ap (λ (rest : List PartitionState). saving.restored_part (other 0) (part_of_values one own) ∷ rest)
    (parts_saved n values words (λ q. view (suc q)) (λ q. other (suc q)) (λ q. memories (suc q)) (λ q. given (suc q)) (omega (arith, counted)))

-- what is loaded into a memory is the same with any words
same_loaded : (system : loaded_system.System) (words : List (List ℕ)) (q : ℕ) → loaded_memory (view_of (with_inputs system words) q) ≡ loaded_memory (view_of (with_inputs system []) q)
unfolding view_of loaded_memory areas_of
same_loaded system words q = refl

-- the machine of a file
pub is_saved : (system : loaded_system.System) (container : List ℕ) (values : MachineValues) (words : List (List ℕ)) → length (parts_of_values values.parts words) ≡ length system.conf.parts
    → restored (with_inputs system (take (length system.conf.parts) words)) values ≡ machine_saved (with_inputs system []) (machine_of_values container values words)
unfolding restored machine_saved view_of
is_saved system container values words counted = λ i. record {
  system = record { conf = system.conf; images = system.images; inputs = words_saved (length system.conf.parts) values.parts words counted i };
  parts = parts_saved (length system.conf.parts) values.parts words (view_of (with_inputs system (take (length system.conf.parts) words))) (view_of (with_inputs system [])) (same_loaded system (take (length system.conf.parts) words)) (λ q. refl) counted i;
  channels = values.channels;
  clock = values.clock;
  time = values.time;
  ticks = values.ticks;
  resets = values.resets;
  halted = values.halted;
}

pub goes_on : (system : loaded_system.System) (container : List ℕ) (values : MachineValues) (words inputs : List (List ℕ)) → IsRestorable system.conf (machine_of_values container values words) → inputs ≡ take (length system.conf.parts) words
    → restored (with_inputs system inputs) values ≡ machine_saved (with_inputs system []) (machine_of_values container values words)
goes_on system container values words inputs restorable given =
    ap (λ (those : List (List ℕ)). restored (with_inputs system those) values) given ∙ is_saved system container values words restorable.counted
