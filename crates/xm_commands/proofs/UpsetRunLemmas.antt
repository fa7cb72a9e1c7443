-- What holds of every machine holds after ticks with the upsets of lines; and what such ticks do to its system and to its ticks.
use Rattle.std.proofs.Common.{◌≡◌, ℕ, zero, suc, ◌+◌, ◌≤◌, Bool, true, false, List, [], ◌∷◌, length, map, Option, None, Some, refl, sym, ap, ◌∙◌, subst, arith}
use Rattle.std.specs.Prelude.{slice_get, ◌==◌}
use Rattle.std.proofs.lemmas.Option.{same_Some}
use Rattle.xm_base.specs.Options.{on}
use Rattle.xm_conf.specs.Description.{described}
use Rattle.xm_conf.specs.Fits.{Fits}
use Rattle.machine_model.specs.Facts.{AreFacts, BootsClocked, BootsComplete, BootsTimed, BootsWithFacts, BootsWithShapes, HasFacts, HasShapes, IsClocked, IsComplete, IsTimed, begun, KeepsClocked, KeepsFacts, KeepsNumbers, KeepsShapes, KeepsTimed}
use Rattle.machine_model.specs.Machine.{Machine, after, happened, is_halt, start, step}
use Rattle.machine_model.specs.Partition.{PartitionState}
use Rattle.machine_model.specs.Structures.{flag}
use Rattle.machine_model.specs.View.{System, view_of}
use Rattle.machine_model.specs.Whole.{AllHalted, AllReset, NoEvent, WholeEvent, ticks_after}
use Rattle.machine_model.specs.lemmas.ListLemmas.{each_counted, get_each}
use Rattle.machine_model.specs.lemmas.TickLemmas.{step_halted, step_runs}
use Rattle.saved_machines.specs.Restorable.{HasAllFacts}
use Rattle.upset_laws.specs.FlipLaws.{FlipsKeepFacts}
use Rattle.upset_model.specs.Places.{Timetable, upset_of, upsets_of}
use Rattle.upset_model.specs.Upsets.{Schedule, Strike, Upset, later, ready, ready_unless, struck_if, upset, upset_run, upsets}
use Rattle.upset_model.specs.declared.upset_line.UpsetLine.{UpsetLine}

-- the laws by which what holds of every machine holds of one that boots, and is kept by a tick and by a flip
pub record KeepAllFacts : Type 0 where
  pub flips : FlipsKeepFacts
  pub numbers : KeepsNumbers
  pub facts : KeepsFacts
  pub timed : KeepsTimed
  pub clocked : KeepsClocked
  pub shapes : KeepsShapes
  pub booted_complete : BootsComplete
  pub booted_facts : BootsWithFacts
  pub booted_timed : BootsTimed
  pub booted_clocked : BootsClocked
  pub booted_shapes : BootsWithShapes

-- What an upset keeps.

-- a partition after an upset was one before it, and was struck or not
record WasThere (u : Upset) (g : Machine) (p : ℕ) (ps : PartitionState) : Type 0 where
  before : PartitionState
  there : slice_get g.parts p ≡ Some before
  is : struck_if (u.part == p) u.strike before ≡ ps

upset_there : (u : Upset) (g : Machine) (q : ℕ) → slice_get (upset u g).parts q ≡ on (struck_if (u.part == q) u.strike) (slice_get g.parts q)
unfolding upset
upset_there u g q = get_each (λ p ps. struck_if (u.part == p) u.strike ps) g.parts q

was_there : (u : Upset) (g : Machine) (p : ℕ) (ps : PartitionState) → slice_get (upset u g).parts p ≡ Some ps → WasThere u g p ps
was_there u g p ps there = at (slice_get g.parts p) refl
  where
    at : (o : Option PartitionState) → slice_get g.parts p ≡ o → WasThere u g p ps
    at None none = absurd (let both = sym (upset_there u g p ∙ ap (on (struck_if (u.part == p) u.strike)) none) ∙ there in cc)
    at (Some qs) some = record {
      before = qs;
      there = some;
      is = same_Some _ ps (sym (upset_there u g p ∙ ap (on (struck_if (u.part == p) u.strike)) some) ∙ there);
    }

struck_keeps : (P : PartitionState → Type 0) (b : Bool) (strike : Strike) (ps : PartitionState) → (P ps → P (strike ps)) → P ps → P (struck_if b strike ps)
struck_keeps P true strike ps keeps has = keeps has
struck_keeps P false strike ps keeps has = has

upset_facts : FlipsKeepFacts → (line : UpsetLine) (g : Machine) → HasFacts g → HasFacts (upset (upset_of line) g)
unfolding upset
upset_facts flips line g facts p ps there =
    let its = was_there (upset_of line) g p ps there in
    subst (AreFacts (view_of g.system p) g.ticks g.halted) its.is
    (struck_keeps (AreFacts (view_of g.system p) g.ticks g.halted) (line.part == p) (upset_of line).strike its.before
    (flips (view_of g.system p) g.ticks g.halted line.place line.bit its.before) (facts p its.before its.there))

upset_count : (u : Upset) (g : Machine) → length (upset u g).parts ≡ length g.parts
unfolding upset
upset_count u g = each_counted (λ p ps. struck_if (u.part == p) u.strike ps) g.parts

upset_complete : (u : Upset) (g : Machine) → IsComplete g → IsComplete (upset u g)
unfolding upset
upset_complete u g complete = record { parts = upset_count u g ∙ complete.parts; channels = complete.channels }

upset_timed : (u : Upset) (g : Machine) → IsTimed g → IsTimed (upset u g)
unfolding upset
upset_timed u g timed = timed

upset_clocked : (u : Upset) (g : Machine) → IsClocked g → IsClocked (upset u g)
unfolding upset
upset_clocked u g clocked = record { in_frame = clocked.in_frame; asked = clocked.asked }

upset_shapes : (u : Upset) (g : Machine) → HasShapes g → HasShapes (upset u g)
unfolding upset
upset_shapes u g shapes = record { counted = shapes.counted; suited = shapes.suited }

upset_all : FlipsKeepFacts → (line : UpsetLine) (g : Machine) → HasAllFacts g → HasAllFacts (upset (upset_of line) g)
upset_all flips line g has = record {
  facts = upset_facts flips line g has.facts;
  timed = upset_timed (upset_of line) g has.timed;
  clocked = upset_clocked (upset_of line) g has.clocked;
  complete = upset_complete (upset_of line) g has.complete;
  shapes = upset_shapes (upset_of line) g has.shapes;
}

upsets_all : FlipsKeepFacts → (lines : List UpsetLine) (g : Machine) → HasAllFacts g → HasAllFacts (upsets (map upset_of lines) g)
upsets_all flips [] g has = has
upsets_all flips (line ∷ lines) g has = upsets_all flips lines (upset (upset_of line) g) (upset_all flips line g has)

-- The machine as a tick finds it.

ready_struck : (us : List Upset) (g : Machine) → g.halted ≡ false → ready us g ≡ upsets us g
unfolding ready
ready_struck us g runs = ap (λ b. ready_unless b us g) runs

ready_halts : (us : List Upset) (g : Machine) → g.halted ≡ true → ready us g ≡ g
unfolding ready
ready_halts us g halts = ap (λ b. ready_unless b us g) halts

ready_all : FlipsKeepFacts → (lines : List UpsetLine) (g : Machine) → HasAllFacts g → HasAllFacts (ready (map upset_of lines) g)
ready_all flips lines g has = at g.halted refl
  where
    at : (b : Bool) → g.halted ≡ b → HasAllFacts (ready (map upset_of lines) g)
    at true halts = subst HasAllFacts (sym (ready_halts (map upset_of lines) g halts)) has
    at false runs = subst HasAllFacts (sym (ready_struck (map upset_of lines) g runs)) (upsets_all flips lines g has)

-- its system, its ticks, and whether it has halted are the same
pub record IsAsBefore (before now : Machine) : Type 0 where
  pub system : now.system ≡ before.system
  pub ticks : now.ticks ≡ before.ticks
  pub halted : now.halted ≡ before.halted

upset_as : (u : Upset) (g : Machine) → IsAsBefore g (upset u g)
unfolding upset
upset_as u g = record { system = refl; ticks = refl; halted = refl }

upsets_as : (us : List Upset) (g : Machine) → IsAsBefore g (upsets us g)
upsets_as [] g = record { system = refl; ticks = refl; halted = refl }
upsets_as (u ∷ us) g =
    let one = upset_as u g in
    let rest = upsets_as us (upset u g) in
    record { system = rest.system ∙ one.system; ticks = rest.ticks ∙ one.ticks; halted = rest.halted ∙ one.halted }

ready_as : (us : List Upset) (g : Machine) → IsAsBefore g (ready us g)
ready_as us g = at g.halted refl
  where
    at : (b : Bool) → g.halted ≡ b → IsAsBefore g (ready us g)
    at true halts = subst (IsAsBefore g) (sym (ready_halts us g halts)) (record { system = refl; ticks = refl; halted = refl })
    at false runs = subst (IsAsBefore g) (sym (ready_struck us g runs)) (upsets_as us g)

-- A tick.

step_all : KeepAllFacts → (g : Machine) → Fits (described g.system.conf) → HasAllFacts g → HasAllFacts (step g)
step_all laws g fits has =
    let same = laws.numbers g in
    record {
      facts = laws.facts g has.facts;
      timed = laws.timed g has.timed;
      clocked = laws.clocked g fits has.clocked;
      complete = record {
        parts = same.parts ∙ has.complete.parts ∙ ap (λ (s : System). length s.conf.parts) (sym same.system);
        channels = same.channels ∙ has.complete.channels ∙ ap (λ (s : System). length s.conf.chans) (sym same.system);
      };
      shapes = laws.shapes g fits has.shapes;
    }

-- a tick is begun, unless the hypervisor has halted, and it is counted, unless it halts in it
record CountsTick (before now : Machine) : Type 0 where
  within : begun now ≤ begun before + 1
  runs : now.halted ≡ false → (before.halted ≡ false) × (now.ticks ≡ before.ticks + 1)

event_counts : (event : WholeEvent) (ticks : ℕ) → (ticks_after event ticks + flag (is_halt event) ≤ ticks + 1) × (is_halt event ≡ false → ticks_after event ticks ≡ ticks + 1)
event_counts NoEvent ticks = (omega arith, λ runs. refl)
event_counts (AllReset mode) ticks = (omega arith, λ runs. refl)
event_counts AllHalted ticks = (omega arith, λ runs. absurd (cc))

after_counts : (g : Machine) → g.halted ≡ false → CountsTick g (after g (happened g))
unfolding after
after_counts g runs =
    let counts = event_counts (happened g).event g.ticks in
    let now : ticks_after (happened g).event g.ticks + flag (is_halt (happened g).event) ≤ g.ticks + 1 = counts.0 in
    record { within = omega (arith, now); runs = λ still. (runs, counts.1 still) }

halted_counts : (g : Machine) → g.halted ≡ true → CountsTick g g
halted_counts g halts = record { within = omega arith; runs = λ now. absurd (let both : true ≡ false = sym halts ∙ now in cc) }

step_counts : (g : Machine) → CountsTick g (step g)
step_counts g = at g.halted refl
  where
    at : (b : Bool) → g.halted ≡ b → CountsTick g (step g)
    at true halts = subst (CountsTick g) (sym (step_halted g halts)) (halted_counts g halts)
    at false runs = subst (CountsTick g) (sym (step_runs g runs)) (after_counts g runs)

-- A run.

pub run_system : KeepsNumbers → (count : ℕ) (s : Schedule) (g : Machine) → (upset_run s g count).system ≡ g.system
run_system numbers zero s g = refl
run_system numbers (suc count) s g =
    run_system numbers count (later s) (step (ready (s 0) g)) ∙ (numbers (ready (s 0) g)).system ∙ (ready_as (s 0) g).system

pub run_all : KeepAllFacts → (count : ℕ) (t : Timetable) (g : Machine) → Fits (described g.system.conf) → HasAllFacts g → HasAllFacts (upset_run (upsets_of t) g count)
run_all laws zero t g fits has = has
run_all laws (suc count) t g fits has =
    let found : Machine = ready (map upset_of (t 0)) g in
    let found_as = ready_as (map upset_of (t 0)) g in
    let found_fits : Fits (described found.system.conf) = subst (λ (s : System). Fits (described s.conf)) (sym found_as.system) fits in
    let next_fits : Fits (described (step found).system.conf) = subst (λ (s : System). Fits (described s.conf)) (sym (laws.numbers found).system) found_fits in
    run_all laws count (later t) (step found) next_fits (step_all laws found found_fits (ready_all laws.flips (t 0) g has))

-- the ticks are begun, up to the one in which the hypervisor halts, and those before that one are counted
pub record CountsTicks (count : ℕ) (before now : Machine) : Type 0 where
  pub within : begun now ≤ begun before + count
  pub runs : now.halted ≡ false → (before.halted ≡ false) × (now.ticks ≡ before.ticks + count)

pub run_counts : (count : ℕ) (s : Schedule) (g : Machine) → CountsTicks count g (upset_run s g count)
run_counts zero s g = record { within = omega arith; runs = λ now. (now, omega arith) }
run_counts (suc count) s g =
    let found_as = ready_as (s 0) g in
    let one = step_counts (ready (s 0) g) in
    let rest = run_counts count (later s) (step (ready (s 0) g)) in
    let same : (ready (s 0) g).ticks ≡ g.ticks = found_as.ticks in
    let same_begun : begun (ready (s 0) g) ≡ begun g = ap (λ (n : ℕ). n + flag (ready (s 0) g).halted) found_as.ticks ∙ ap (λ (b : Bool). g.ticks + flag b) found_as.halted in
    let first : begun (step (ready (s 0) g)) ≤ begun (ready (s 0) g) + 1 = one.within in
    let last : begun (upset_run (later s) (step (ready (s 0) g)) count) ≤ begun (step (ready (s 0) g)) + count = rest.within in
    record {
      within = omega (arith, same_begun, first, last);
      runs = λ now.
          let after_one = rest.runs now in
          let after_ready = one.runs after_one.0 in
          let first_is : (step (ready (s 0) g)).ticks ≡ (ready (s 0) g).ticks + 1 = after_ready.1 in
          let last_is : (upset_run (later s) (step (ready (s 0) g)) count).ticks ≡ (step (ready (s 0) g)).ticks + count = after_one.1 in
          (sym found_as.halted ∙ after_ready.0, omega (arith, same, first_is, last_is));
    }

pub start_all : KeepAllFacts → (system : System) → Fits (described system.conf) → HasAllFacts (start system)
unfolding start
start_all laws system fits = record {
  facts = laws.booted_facts system;
  timed = laws.booted_timed system;
  clocked = laws.booted_clocked system fits;
  complete = laws.booted_complete system;
  shapes = laws.booted_shapes system;
}

pub start_fits : (system : System) → Fits (described system.conf) → Fits (described (start system).system.conf)
unfolding start
start_fits system fits = fits
