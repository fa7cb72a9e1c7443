-- For proofs: what a run with upsets leaves as it was, and its segments, each of which begins with upsets.
use Rattle.std.proofs.Common.{◌≡◌, ℕ, zero, suc, ◌+◌, ◌-◌, ◌≤◌, ◌<◌, Bool, true, false, List, [], ◌∷◌, ◌++◌, length, refl, sym, ap, ◌∙◌, arith}
use Rattle.std.specs.Prelude.{◌==◌}
use Rattle.std.proofs.lemmas.List.{append-nil}
use Rattle.machine_model.specs.Cue.{cue, script, script_unless}
use Rattle.machine_model.specs.Facts.{RunsKeepNumbers}
use Rattle.machine_model.specs.Machine.{Machine, run, step}
use Rattle.machine_model.specs.lemmas.ListLemmas.{each_counted}
use Rattle.tick_steps.specs.lemmas.KeptLemmas.{ticks_most}
use Rattle.upset_model.specs.Upsets.{Schedule, Upset, later, ready, ready_unless, struck_if, upset, upset_run, upset_script, upsets}
use Rattle.upset_model.specs.lemmas.Segments.{first_run, first_script, from, from_at, ready_none, ready_system, ready_ticks, upset_run_add, upset_run_halted, upset_script_add, upset_script_halted}

-- Upsets.

-- they leave the number of partitions
upset_parts : (u : Upset) (g : Machine) → length (upset u g).parts ≡ length g.parts
unfolding upset
upset_parts u g = each_counted (λ p ps. struck_if (u.part == p) u.strike ps) g.parts

upsets_parts : (us : List Upset) (g : Machine) → length (upsets us g).parts ≡ length g.parts
upsets_parts [] g = refl
upsets_parts (u ∷ us) g = upsets_parts us (upset u g) ∙ upset_parts u g

pub ready_parts : (us : List Upset) (g : Machine) → length (ready us g).parts ≡ length g.parts
unfolding ready
ready_parts us g = by g.halted
  where
    by : (b : Bool) → length (ready_unless b us g).parts ≡ length g.parts
    by true = refl
    by false = upsets_parts us g

-- a run with them leaves it, too, and the system
pub struck_numbered : RunsKeepNumbers → (count : ℕ) (s : Schedule) (g : Machine) → (length (upset_run s g count).parts ≡ length g.parts) × ((upset_run s g count).system ≡ g.system)
struck_numbered law zero s g = (refl, refl)
struck_numbered law (suc count) s g =
    let one = law (ready (s 0) g) 1 in
    let rest = struck_numbered law count (later s) (step (ready (s 0) g)) in
    (rest.0 ∙ one.parts ∙ ready_parts (s 0) g, rest.1 ∙ one.system ∙ ready_system (s 0) g)

-- Ticks.

-- a run does this many ticks at most
pub struck_ticks : (count : ℕ) (s : Schedule) (g : Machine) → (upset_run s g count).ticks ≤ g.ticks + count
struck_ticks zero s g = omega arith
struck_ticks (suc count) s g =
    omega (arith, struck_ticks count (later s) (step (ready (s 0) g)), ticks_most 1 (ready (s 0) g), ready_ticks (s 0) g)

-- a partition receives a cue in each tick at most
pub struck_few : (count : ℕ) (s : Schedule) (g : Machine) (p : ℕ) → length (upset_script s g p count) ≤ count
struck_few zero s g p = omega arith
struck_few (suc count) s g p = at g.halted (struck_few count (later s) (step (ready (s 0) g)) p)
  where
    at : (b : Bool) → length (upset_script (later s) (step (ready (s 0) g)) p count) ≤ count
        → length (script_unless b (cue (ready (s 0) g) p) (upset_script (later s) (step (ready (s 0) g)) p count)) ≤ suc count
    at true few = omega arith
    at false few = omega (arith, few)

-- what is received is whole once the hypervisor has halted
pub struck_ends : (done asked : ℕ) (s : Schedule) (g : Machine) (p : ℕ) → done ≤ asked → (upset_run s g done).halted ≡ true → upset_script s g p done ≡ upset_script s g p asked
struck_ends done asked s g p within halts =
    let all : done + (asked - done) ≡ asked = omega (arith, within) in
    sym (append-nil (upset_script s g p done))
    ∙ ap (λ rest. upset_script s g p done ++ rest) (sym (upset_script_halted (asked - done) (from done s) (upset_run s g done) p halts))
    ∙ sym (upset_script_add done (asked - done) s g p)
    ∙ ap (upset_script s g p) all

-- and the machine stays as it is
pub struck_rests : (done asked : ℕ) (s : Schedule) (g : Machine) → done ≤ asked → (upset_run s g done).halted ≡ true → upset_run s g done ≡ upset_run s g asked
struck_rests done asked s g within halts =
    let all : done + (asked - done) ≡ asked = omega (arith, within) in
    sym (upset_run_halted (asked - done) (from done s) (upset_run s g done) halts) ∙ sym (upset_run_add done (asked - done) s g) ∙ ap (upset_run s g) all

-- Segments.

-- ticks after the first of a run, of which upsets strike before the first alone, are plain ones of the machine that these leave: the machine after
-- them,
pub segment_run : (done count : ℕ) (s : Schedule) (g : Machine) → 0 < count → ((k : ℕ) → done < k → k < done + count → s k ≡ [])
    → upset_run s g (done + count) ≡ run (ready (s done) (upset_run s g done)) count
segment_run done zero s g some quiet = absurd (omega (arith, some))
segment_run done (suc count) s g some quiet =
    let same : done + 0 ≡ done = omega arith in
    upset_run_add done (suc count) s g
    ∙ first_run count (from done s) (upset_run s g done) (λ k below. from_at done (suc k) s ∙ quiet (done + suc k) (omega arith) (omega (arith, below)))
    ∙ ap (λ (us : List Upset). run (ready us (upset_run s g done)) (suc count)) (from_at done 0 s ∙ ap s same)

-- and what a partition receives in them
pub segment_script : (done count : ℕ) (s : Schedule) (g : Machine) (p : ℕ) → 0 < count → ((k : ℕ) → done < k → k < done + count → s k ≡ [])
    → upset_script s g p (done + count) ≡ upset_script s g p done ++ script (ready (s done) (upset_run s g done)) p count
segment_script done zero s g p some quiet = absurd (omega (arith, some))
segment_script done (suc count) s g p some quiet =
    let same : done + 0 ≡ done = omega arith in
    upset_script_add done (suc count) s g p
    ∙ ap (λ rest. upset_script s g p done ++ rest)
    (first_script count (from done s) (upset_run s g done) p (λ k below. from_at done (suc k) s ∙ quiet (done + suc k) (omega arith) (omega (arith, below)))
    ∙ ap (λ (us : List Upset). script (ready us (upset_run s g done)) p (suc count)) (from_at done 0 s ∙ ap s same))

-- without upsets it is what it receives in plain ticks
pub quiet_script : (count : ℕ) (s : Schedule) (g : Machine) (p : ℕ) → ((k : ℕ) → s k ≡ []) → upset_script s g p count ≡ script g p count
quiet_script zero s g p quiet = refl
quiet_script (suc count) s g p quiet =
    first_script count s g p (λ k below. quiet (suc k))
    ∙ ap (λ (us : List Upset). script (ready us g) p (suc count)) (quiet 0)
    ∙ ap (λ (m : Machine). script m p (suc count)) (ready_none g)
