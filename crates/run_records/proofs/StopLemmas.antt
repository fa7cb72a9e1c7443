-- Where a run ends by a stop.
use Rattle.std.proofs.Common.{◌≡◌, ℕ, zero, suc, ◌+◌, ◌-◌, ◌<◌, ◌≤◌, Bool, true, false, List, [], ◌∷◌, ◌++◌, Option, None, Some, refl, ap, ◌∙◌, arith}
use Rattle.std.specs.Prelude.{◌&&◌, ◌||◌, not, unwrap_or}
use Rattle.std.specs.List.{list_any}
use Rattle.xm_base.specs.Options.{on}
use Rattle.machine_model.specs.Alone.{Alone, alone_step}
use Rattle.machine_model.specs.Cue.{cue, script_unless}
use Rattle.machine_model.specs.Facts.{KeepsNumbers}
use Rattle.machine_model.specs.Laws.{alone_part_at}
use Rattle.machine_model.specs.Machine.{Machine, step}
use Rattle.machine_model.specs.View.{view_of}
use Rattle.upset_model.specs.Places.{Timetable, upsets_of}
use Rattle.upset_model.specs.Reports.{reported}
use Rattle.upset_model.specs.Upsets.{Schedule, Upset, alone_struck, later, own_strikes, ready, strikes_on, upset_run, upset_script}
use Rattle.upset_model.specs.lemmas.Segments.{ready_system, reported_add, upset_run_add, upset_run_halted}
use Rattle.upset_laws.specs.UpsetLaws.{OneUpsetTick}
use Rattle.run_records.specs.Stops.{AreStopsOf, AtChange, AtInstruction, IsFirstStop, Stop, StopsAlone, StopsFirst, StopsInPrefix, alone_ends_after, alone_ends_before, alone_first_stop, byte_of, ended_by, ended_unless, ends_after, ends_before, executes_at, first_stop, holds_after, holds_at, holds_before, is_another, ticks_until}
use Rattle.run_records.proofs.TickLemmas.{TickFrom, from_same, same_system, tick_from}

-- what holds after a tick more is what holds after that many of those that follow, where the first tick stops nothing
later_holds : (stops : List Stop) (s : Schedule) (g : Machine) (k : ℕ) → holds_after stops s g 1 ≡ false → holds_at stops s g (suc k) ≡ holds_at stops (later s) (step (ready (s 0) g)) k
later_holds stops s g zero none = ap (λ b. holds_before stops s g 1 || b) none
later_holds stops s g (suc k) none = refl

or_parts : (one other : Bool) → (one || other) ≡ false → (one ≡ false) × (other ≡ false)
or_parts true other none = absurd cc
or_parts false other none = (refl, none)

-- nothing holds in a machine that has halted
halted_holds : (stops : List Stop) (s : Schedule) (g : Machine) (k : ℕ) → g.halted ≡ true → (holds_before stops s g k ≡ false) × (holds_after stops s g (suc k) ≡ false)
halted_holds stops s g k halts =
    let still : (upset_run s g k).halted ≡ true = ap (λ (m : Machine). m.halted) (upset_run_halted k s g halts) ∙ halts in (
      ap (λ b. not b && list_any (ends_before (ready (s k) (upset_run s g k))) stops) still,
      ap (λ b. not b && list_any (ends_after (upset_run s g k) (step (ready (s k) (upset_run s g k)))) stops) still,
    )

-- the first tick, of a machine that has not halted
before_runs : (stops : List Stop) (s : Schedule) (g : Machine) (b : Bool) → g.halted ≡ false → list_any (ends_before (ready (s 0) g)) stops ≡ b → holds_before stops s g 0 ≡ b
before_runs stops s g b runs is = ap (λ h. not h && list_any (ends_before (ready (s 0) g)) stops) runs ∙ is

after_runs : (stops : List Stop) (s : Schedule) (g : Machine) (b : Bool) → g.halted ≡ false → list_any (ends_after g (step (ready (s 0) g))) stops ≡ b → holds_after stops s g 1 ≡ b
after_runs stops s g b runs is = ap (λ h. not h && list_any (ends_after g (step (ready (s 0) g))) stops) runs ∙ is

-- where the first tick stops nothing
first_later : (stops : List Stop) (s : Schedule) (g : Machine) (count : ℕ) (rest : Option ℕ) → holds_before stops s g 0 ≡ false → holds_after stops s g 1 ≡ false
    → IsFirstStop stops (later s) (step (ready (s 0) g)) count rest → IsFirstStop stops s g (suc count) (on (λ done. suc done) rest)
first_later stops s g count None before after is = λ k below. at k below
  where
    at : (k : ℕ) → k < suc count → (holds_before stops s g k ≡ false) × (holds_after stops s g (suc k) ≡ false)
    at zero below = (before, after)
    at (suc k) below = is k (omega (arith, below))
first_later stops s g count (Some done) before after is = (
  (let within = is.0 in omega (arith, within)),
  later_holds stops s g done after ∙ is.1,
  λ k below. at k below,
)
  where
    at : (k : ℕ) → k < suc done → holds_at stops s g k ≡ false
    at zero below = ap (λ b. b || false) before
    at (suc k) below = later_holds stops s g k after ∙ is.2 k (omega (arith, below))

pub stops_first : StopsFirst
stops_first stops zero s g = λ k below. absurd (omega (arith, below))
stops_first stops (suc count) s g = by g.halted refl (list_any (ends_before (ready (s 0) g)) stops) refl (list_any (ends_after g (step (ready (s 0) g))) stops) refl (stops_first stops count (later s) (step (ready (s 0) g)))
  where
    by : (halted : Bool) → g.halted ≡ halted → (before : Bool) → list_any (ends_before (ready (s 0) g)) stops ≡ before
        → (after : Bool) → list_any (ends_after g (step (ready (s 0) g))) stops ≡ after
        → IsFirstStop stops (later s) (step (ready (s 0) g)) count (first_stop stops (later s) (step (ready (s 0) g)) count)
        → IsFirstStop stops s g (suc count) (ended_unless halted (ended_by before after (first_stop stops (later s) (step (ready (s 0) g)) count)))
    by true halts before is after also rest = λ k below. halted_holds stops s g k halts
    by false runs true is after also rest = (
      omega arith,
      ap (λ b. b || false) (before_runs stops s g true runs is),
      λ k below. absurd (omega (arith, below)),
    )
    by false runs false is true also rest = (
      omega arith,
      or_second (holds_before stops s g 1) (holds_after stops s g 1) (after_runs stops s g true runs also),
      λ k below. none k below (ap (λ b. b || false) (before_runs stops s g false runs is)),
    )
      where
        or_second : (one other : Bool) → other ≡ true → (one || other) ≡ true
        or_second true other holds = refl
        or_second false other holds = holds

        none : (k : ℕ) → k < 1 → holds_at stops s g 0 ≡ false → holds_at stops s g k ≡ false
        none zero below zeroth = zeroth
        none (suc k) below zeroth = absurd (omega (arith, below))
    by false runs false is false also rest =
        first_later stops s g count (first_stop stops (later s) (step (ready (s 0) g)) count) (before_runs stops s g false runs is) (after_runs stops s g false runs also) rest

-- a stop ends a run within its ticks
ends_within : (stops : List Stop) (s : Schedule) (g : Machine) (count : ℕ) (o : Option ℕ) → IsFirstStop stops s g count o → unwrap_or o count ≤ count
ends_within stops s g count None is = omega arith
ends_within stops s g count (Some done) is = is.0

pub stops_in_prefix : StopsInPrefix
stops_in_prefix stops t g count =
    let done : ℕ = ticks_until stops (upsets_of t) g count in
    let within : done ≤ count = ends_within stops (upsets_of t) g count (first_stop stops (upsets_of t) g count) (stops_first stops count (upsets_of t) g) in
    let parts : count ≡ done + (count - done) = omega (arith, within) in
    record {
      within = within;
      state = ap (upset_run (upsets_of t) g) parts ∙ upset_run_add done (count - done) (upsets_of t) g
          ∙ ap (λ (rest : Schedule). upset_run rest (upset_run (upsets_of t) g done) (count - done)) (from_same done (upsets_of t));
      lines = ap (reported t g) parts ∙ reported_add done (count - done) t g
          ∙ ap (λ (rest : Timetable). reported t g done ++ reported rest (upset_run (upsets_of t) g done) (count - done)) (from_same done t);
    }

-- the stops of one partition, by its part of the machine
before_alone : (us : List Upset) (g : Machine) (p : ℕ) (a : Alone) (stops : List Stop) → AreStopsOf p stops → TickFrom us g p a
    → list_any (ends_before (ready us g)) stops ≡ list_any (alone_ends_before (view_of g.system p) (alone_struck (strikes_on p us) a) (cue (ready us g) p)) stops
before_alone us g p a [] its ticks = refl
before_alone us g p a (AtInstruction part address ∷ stops) its ticks =
    ap (λ q. executes_at address (view_of (ready us g).system q) (alone_part_at (ready us g) q) (cue (ready us g) q) || list_any (ends_before (ready us g)) stops) its.0
    ∙ ap (λ o. executes_at address (view_of (ready us g).system p) o (cue (ready us g) p) || list_any (ends_before (ready us g)) stops) ticks.before
    ∙ ap (λ system. executes_at address (view_of system p) (Some (alone_struck (strikes_on p us) a)) (cue (ready us g) p) || list_any (ends_before (ready us g)) stops) (ready_system us g)
    ∙ ap (λ b. executes_at address (view_of g.system p) (Some (alone_struck (strikes_on p us) a)) (cue (ready us g) p) || b) (before_alone us g p a stops its.1 ticks)
before_alone us g p a (AtChange part address ∷ stops) its ticks = before_alone us g p a stops its.1 ticks

after_alone : (g h : Machine) (p : ℕ) (a b : Alone) (stops : List Stop) → AreStopsOf p stops → alone_part_at g p ≡ Some a → alone_part_at h p ≡ Some b
    → list_any (ends_after g h) stops ≡ list_any (alone_ends_after a b) stops
after_alone g h p a b [] its before after = refl
after_alone g h p a b (AtInstruction part address ∷ stops) its before after = after_alone g h p a b stops its.1 before after
after_alone g h p a b (AtChange part address ∷ stops) its before after =
    ap (λ q. is_another (byte_of address (alone_part_at g q)) (byte_of address (alone_part_at h q)) || list_any (ends_after g h) stops) its.0
    ∙ ap (λ o. is_another (byte_of address o) (byte_of address (alone_part_at h p)) || list_any (ends_after g h) stops) before
    ∙ ap (λ o. is_another (byte_of address (Some a)) (byte_of address o) || list_any (ends_after g h) stops) after
    ∙ ap (λ c. is_another (byte_of address (Some a)) (byte_of address (Some b)) || c) (after_alone g h p a b stops its.1 before after)

pub stops_alone : OneUpsetTick → KeepsNumbers → StopsAlone
stops_alone law keeps stops zero s g p a its is = refl
stops_alone law keeps stops (suc count) s g p a its is = by g.halted refl (λ next. stops_alone law keeps stops count (later s) (step (ready (s 0) g)) p next its)
  where
    by : (b : Bool) → g.halted ≡ b
        → ((next : Alone) → alone_part_at (step (ready (s 0) g)) p ≡ Some next → first_stop stops (later s) (step (ready (s 0) g)) count
        ≡ alone_first_stop stops (view_of (step (ready (s 0) g)).system p) (own_strikes p (later s)) next (upset_script (later s) (step (ready (s 0) g)) p count))
        → ended_unless b
        (ended_by (list_any (ends_before (ready (s 0) g)) stops) (list_any (ends_after g (step (ready (s 0) g))) stops) (first_stop stops (later s) (step (ready (s 0) g)) count))
        ≡ alone_first_stop stops (view_of g.system p) (own_strikes p s) a (script_unless b (cue (ready (s 0) g) p) (upset_script (later s) (step (ready (s 0) g)) p count))
    by true halts more = refl
    by false runs more =
        let ticks : TickFrom (s 0) g p a = tick_from law (s 0) g p a runs is in
        let next : Alone = alone_step (view_of g.system p) (alone_struck (own_strikes p s 0) a) (cue (ready (s 0) g) p) in
        let others : Option ℕ = first_stop stops (later s) (step (ready (s 0) g)) count in
        ap (λ b. ended_by b (list_any (ends_after g (step (ready (s 0) g))) stops) others) (before_alone (s 0) g p a stops its ticks)
        ∙ ap (λ b. ended_by (list_any (alone_ends_before (view_of g.system p) (alone_struck (own_strikes p s 0) a) (cue (ready (s 0) g) p)) stops) b others)
        (after_alone g (step (ready (s 0) g)) p a next stops its is ticks.after)
        ∙ ap (λ rest. ended_by (list_any (alone_ends_before (view_of g.system p) (alone_struck (own_strikes p s 0) a) (cue (ready (s 0) g) p)) stops) (list_any (alone_ends_after a next) stops) rest)
        (more next ticks.after
        ∙ ap (λ system. alone_first_stop stops (view_of system p) (own_strikes p (later s)) next (upset_script (later s) (step (ready (s 0) g)) p count)) (same_system keeps (s 0) g))
