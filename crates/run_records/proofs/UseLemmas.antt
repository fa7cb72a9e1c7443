-- Figures of use.
use Rattle.std.proofs.Common.{◌≡◌, ℕ, zero, suc, ◌+◌, ◌<◌, ◌≤◌, Bool, true, false, List, [], ◌∷◌, ◌++◌, length, length-append, Option, None, Some, refl, sym, ap, ◌∙◌, append_assoc, arith, subst}
use Rattle.std.specs.Prelude.{◌==◌, ◌&&◌, ◌||◌, if◌then◌else◌, filter, map, slice_get}
use Rattle.std.specs.List.{flat_map, list_any}
use Rattle.std.proofs.Math.Nat.{suc-add, zero-add}
use Rattle.std.proofs.lemmas.Bool.{eqb-true}
use Rattle.std.proofs.lemmas.List.Elements.{filter-append}
use Rattle.cyclic_plans.specs.PlanClock.{here}
use Rattle.cyclic_plans.specs.declared.slots.Here.{Here}
use Rattle.machine_model.specs.Alone.{Alone}
use Rattle.machine_model.specs.Cue.{Away, Mine, CueSlot, cue, cue_in, slot_of}
use Rattle.machine_model.specs.Laws.{alone_part_at}
use Rattle.machine_model.specs.Lists.{table}
use Rattle.machine_model.specs.Machine.{Machine, happened, happened_by, step, turn_here, turn_of}
use Rattle.machine_model.specs.View.{view_of}
use Rattle.upset_model.specs.Upsets.{Schedule, later, own_strikes, ready, upset_run, upset_script}
use Rattle.upset_model.specs.lemmas.Segments.{from, upset_run_halted}
use Rattle.run_records.specs.Counts.{busy}
use Rattle.run_records.specs.Doing.{doing, doing_here}
use Rattle.run_records.specs.Executed.{is_busy, is_something}
use Rattle.run_records.specs.OwnTicks.{FindsTicksAlone, OwnTick, alone_ticks, own_tick, own_ticks, tick_of_part, ticks_unless}
use Rattle.run_records.specs.Use.{OverrunsAreOccurrences, SlotTick, SlotTicksInPieces, SlotsHaveBusyTicks, Occurrence, OccurrencesHaveAllTicks, UsesAlone, busy_slot_ticks, figures_of, goes_on_with, is_overrun, is_ready_part, part_use, slot_tick, slot_ticks, slot_ticks_unless, slot_use, tick_of_slot, ticks_in, occurrence_of_tick, occurrences_from, occurrences_of, with_tick}
use Rattle.run_records.specs.UseText.{UseTextAlone, part_text, plan_texts, use_text}
use Rattle.run_records.proofs.TickLemmas.{from_same}

pub uses_alone : FindsTicksAlone → UsesAlone
uses_alone law count s g p a is = ap (part_use (view_of g.system p)) (law count s g p a is)

-- the lines of partitions, by their numbers
texts_alone : (count parts : ℕ) (number : ℕ → ℕ) (s : Schedule) (g : Machine) (alone : ℕ → Alone) → FindsTicksAlone
    → ((k : ℕ) → k < parts → alone_part_at g (number k) ≡ Some (alone (number k)))
    → flat_map (λ p. part_text p (part_use (view_of g.system p) (own_ticks s g p count))) (table number parts)
    ≡ flat_map (λ p. part_text p (part_use (view_of g.system p) (alone_ticks (view_of g.system p) (own_strikes p s) (alone p) (upset_script s g p count)))) (table number parts)
texts_alone count zero number s g alone law there = refl
texts_alone count (suc parts) number s g alone law there =
    let here : alone_part_at g (number 0) ≡ Some (alone (number 0)) = there 0 (omega arith) in
    let more = texts_alone count parts (λ k. number (suc k)) s g alone law (λ k below. there (suc k) (omega (arith, below))) in
    λ i. part_text (number 0) (part_use (view_of g.system (number 0)) (law count s g (number 0) (alone (number 0)) here i)) ++ more i

pub use_text_alone : FindsTicksAlone → UseTextAlone
unfolding use_text
use_text_alone law count s g alone there =
    ap (λ (lines : List ℕ). plan_texts g.system.conf (slot_ticks s g count) ++ lines)
    (texts_alone count (length g.parts) (λ p. p) s g alone law there)

-- the ticks of occurrences are all
ticks_from : (occurrence : Occurrence) (ticks : List SlotTick) → ticks_in (occurrences_from occurrence ticks) ≡ occurrence.ticks + length ticks
ticks_from occurrence [] = refl
ticks_from occurrence (tick ∷ ticks) = by (goes_on_with occurrence tick) (ticks_from (with_tick tick occurrence) ticks) (ticks_from (occurrence_of_tick tick) ticks)
  where
    by : (b : Bool) → ticks_in (occurrences_from (with_tick tick occurrence) ticks) ≡ occurrence.ticks + 1 + length ticks → ticks_in (occurrences_from (occurrence_of_tick tick) ticks) ≡ 1 + length ticks
        → ticks_in (if b then occurrences_from (with_tick tick occurrence) ticks else occurrence ∷ occurrences_from (occurrence_of_tick tick) ticks) ≡ occurrence.ticks + suc (length ticks)
    by true on off = omega (arith, on)
    by false on off = omega (arith, off)

pub occurrences_have_all_ticks : OccurrencesHaveAllTicks
occurrences_have_all_ticks [] = refl
occurrences_have_all_ticks (tick ∷ ticks) = (let all = ticks_from (occurrence_of_tick tick) ticks in omega (arith, all))

-- how many numbers there are
counts_numbers : (numbers : List ℕ) → (figures_of numbers).count ≡ length numbers
counts_numbers [] = refl
counts_numbers (n ∷ numbers) = (let rest = counts_numbers numbers in omega (arith, rest))

fewer : (duration : ℕ) (some : List Occurrence) → length (filter (is_overrun duration) some) ≤ length (map (λ (occurrence : Occurrence). occurrence.busy) some)
fewer duration [] = omega arith
fewer duration (occurrence ∷ some) = by (is_overrun duration occurrence) (fewer duration some)
  where
    by : (b : Bool) → length (filter (is_overrun duration) some) ≤ length (map (λ (occurrence : Occurrence). occurrence.busy) some)
        → length (if b then occurrence ∷ filter (is_overrun duration) some else filter (is_overrun duration) some) ≤ suc (length (map (λ (occurrence : Occurrence). occurrence.busy) some))
    by true rest = omega (arith, rest)
    by false rest = omega (arith, rest)

pub overruns_are_occurrences : OverrunsAreOccurrences
unfolding slot_use
overruns_are_occurrences plan slot duration ticks =
    subst (λ n. length (filter (is_overrun duration) (occurrences_of plan slot ticks)) ≤ n) (sym (counts_numbers (map (λ (occurrence : Occurrence). occurrence.busy) (occurrences_of plan slot ticks))))
    (fewer duration (occurrences_of plan slot ticks))

-- the ticks of slots, by pieces
slots_halted : (count : ℕ) (s : Schedule) (g : Machine) → g.halted ≡ true → slot_ticks s g count ≡ []
slots_halted zero s g halts = refl
slots_halted (suc count) s g halts = ap (λ b. slot_ticks_unless b (slot_tick (ready (s 0) g) ++ slot_ticks (later s) (step (ready (s 0) g)) count)) halts

slots_added : (j k : ℕ) (s : Schedule) (g : Machine) → slot_ticks s g (j + k) ≡ slot_ticks s g j ++ slot_ticks (from j s) (upset_run s g j) k
slots_added zero k s g = ap (slot_ticks s g) (zero-add k)
slots_added (suc j) k s g = ap (slot_ticks s g) (suc-add j k) ∙ by g.halted refl (slots_added j k (later s) (step (ready (s 0) g)))
  where
    by : (b : Bool) → g.halted ≡ b
        → slot_ticks (later s) (step (ready (s 0) g)) (j + k)
        ≡ slot_ticks (later s) (step (ready (s 0) g)) j ++ slot_ticks (from (suc j) s) (upset_run s g (suc j)) k
        → slot_ticks_unless b (slot_tick (ready (s 0) g) ++ slot_ticks (later s) (step (ready (s 0) g)) (j + k))
        ≡ slot_ticks_unless b (slot_tick (ready (s 0) g) ++ slot_ticks (later s) (step (ready (s 0) g)) j) ++ slot_ticks (from (suc j) s) (upset_run s g (suc j)) k
    by true halts more = sym (slots_halted k (from (suc j) s) (upset_run s g (suc j)) (ap (λ (m : Machine). m.halted) (upset_run_halted (suc j) s g halts) ∙ halts))
    by false runs more =
        ap (λ rest. slot_tick (ready (s 0) g) ++ rest) more
        ∙ sym (append_assoc (slot_tick (ready (s 0) g)) (slot_ticks (later s) (step (ready (s 0) g)) j) (slot_ticks (from (suc j) s) (upset_run s g (suc j)) k))

pub slot_ticks_in_pieces : SlotTicksInPieces
slot_ticks_in_pieces j k s g = slots_added j k s g ∙ ap (λ (rest : Schedule). slot_ticks s g j ++ slot_ticks rest (upset_run s g j) k) (from_same j s)

-- a partition does nothing in a tick of another one's slot
none_busy : (g : Machine) (p : ℕ) (o : Option Alone) → (cue g p).mine ≡ Away → length (busy (tick_of_part o (cue g p))) ≡ 0
unfolding is_busy doing
none_busy g p None away = refl
none_busy g p (Some a) away =
    let tick : OwnTick = record { found = a; cue = cue g p } in
    ap (λ (mine : CueSlot). length (if is_something (doing_here mine a) then tick ∷ [] else [])) away

-- of one tick at most, some are busy exactly where one is
one_busy : (g : Machine) (p : ℕ) (o : Option Alone) → (if list_any is_busy (tick_of_part o (cue g p)) then 1 else 0) ≡ length (busy (tick_of_part o (cue g p)))
one_busy g p None = refl
one_busy g p (Some a) = by (record { found = a; cue = cue g p }) (is_busy (record { found = a; cue = cue g p }))
  where
    by : (tick : OwnTick) (b : Bool) → (if b || false then 1 else 0) ≡ length (if b then tick ∷ [] else [])
    by tick true = refl
    by tick false = refl

mine_is : (g : Machine) (p : ℕ) (o : Option Here) → here g.system.conf g.clock g.time ≡ o → (cue g p).mine ≡ slot_of (turn_here o) p
unfolding cue cue_in happened happened_by turn_of
mine_is g p o is = ap (λ (h : Option Here). slot_of (turn_here h) p) is

-- the tick of a slot
abbrev slot_tick_of : Machine → Here → SlotTick
slot_tick_of g h = record {
  plan = g.clock.plan;
  slot = h.slot;
  part = h.part;
  first = h.first;
  busy = list_any is_busy (own_tick g h.part);
  ready = is_ready_part (slice_get (step g).parts h.part);
}

-- one tick
busy_in_slot : (g : Machine) (p : ℕ) → length (busy_slot_ticks p (slot_tick g)) ≡ length (busy (own_tick g p))
unfolding slot_tick own_tick
busy_in_slot g p = by (here g.system.conf g.clock g.time) refl
  where
    own : (h : Here) (same : Bool) → (h.part == p) ≡ same → (cue g p).mine ≡ (if same then Mine h.first else Away)
        → length (if same && list_any is_busy (own_tick g h.part) then slot_tick_of g h ∷ [] else []) ≡ length (busy (own_tick g p))
    own h true is mine =
        ap (λ q. length (if list_any is_busy (own_tick g q) then slot_tick_of g h ∷ [] else [])) (eqb-true h.part p is)
        ∙ one (list_any is_busy (own_tick g p)) ∙ one_busy g p (alone_part_at g p)
      where
        one : (b : Bool) → length (if b then slot_tick_of g h ∷ [] else []) ≡ (if b then 1 else 0)
        one true = refl
        one false = refl
    own h false is mine = sym (none_busy g p (alone_part_at g p) mine)

    by : (o : Option Here) → here g.system.conf g.clock g.time ≡ o → length (busy_slot_ticks p (tick_of_slot g o)) ≡ length (busy (own_tick g p))
    by None is = sym (none_busy g p (alone_part_at g p) (mine_is g p None is))
    by (Some h) is = own h (h.part == p) refl (mine_is g p (Some h) is)

busy_added : (p : ℕ) (ticks more : List SlotTick) → length (busy_slot_ticks p (ticks ++ more)) ≡ length (busy_slot_ticks p ticks) + length (busy_slot_ticks p more)
busy_added p ticks more =
    ap length (filter-append (λ (tick : SlotTick). tick.part == p && tick.busy) ticks more) ∙ length-append (busy_slot_ticks p ticks) (busy_slot_ticks p more)

own_busy_added : (ticks more : List OwnTick) → length (busy (ticks ++ more)) ≡ length (busy ticks) + length (busy more)
own_busy_added ticks more = ap length (filter-append is_busy ticks more) ∙ length-append (busy ticks) (busy more)

pub slots_have_busy_ticks : SlotsHaveBusyTicks
slots_have_busy_ticks zero s g p = refl
slots_have_busy_ticks (suc count) s g p = by g.halted (slots_have_busy_ticks count (later s) (step (ready (s 0) g)) p)
  where
    by : (b : Bool) → length (busy_slot_ticks p (slot_ticks (later s) (step (ready (s 0) g)) count)) ≡ length (busy (own_ticks (later s) (step (ready (s 0) g)) p count))
        → length (busy_slot_ticks p (slot_ticks_unless b (slot_tick (ready (s 0) g) ++ slot_ticks (later s) (step (ready (s 0) g)) count)))
        ≡ length (busy (ticks_unless b (own_tick (ready (s 0) g) p ++ own_ticks (later s) (step (ready (s 0) g)) p count)))
    by true more = refl
    by false more =
        busy_added p (slot_tick (ready (s 0) g)) (slot_ticks (later s) (step (ready (s 0) g)) count)
        ∙ (λ i. busy_in_slot (ready (s 0) g) p i + more i)
        ∙ sym (own_busy_added (own_tick (ready (s 0) g) p) (own_ticks (later s) (step (ready (s 0) g)) p count))
