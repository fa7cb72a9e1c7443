-- Runs with upsets are, for each partition, runs of that partition alone with its own upsets.
use Rattle.std.proofs.Common.{◌≡◌, ℕ, zero, suc, ◌<◌, ◌≤◌, Bool, true, false, List, [], ◌∷◌, ◌++◌, length, Option, None, Some, refl, sym, ap, ◌∙◌, arith}
use Rattle.std.specs.Prelude.{slice_get, ◌==◌, if◌then◌else◌}
use Rattle.std.proofs.lemmas.Option.{same_Some}
use Rattle.xm_base.specs.Options.{on}
use Rattle.xm_report.specs.Report.{ReportLine}
use Rattle.machine_model.specs.lemmas.ListLemmas.{filter_append, get_each}
use Rattle.machine_model.specs.lemmas.TickLemmas.{step_halted}
use Rattle.machine_model.specs.Alone.{Alone, alone_step, alone_step_lines, alone_step_said}
use Rattle.machine_model.specs.CoreFile.{core_file}
use Rattle.machine_model.specs.Cue.{Cue, cue, script, script_unless}
use Rattle.machine_model.specs.Facts.{KeepsNumbers}
use Rattle.machine_model.specs.Laws.{OneTick, TicksAlone, alone_part_at, core_file_of, part}
use Rattle.machine_model.specs.Lines.{lines, lines_unless, own, said, said_unless, step_lines, step_said, tag_of}
use Rattle.machine_model.specs.Lists.{is_number}
use Rattle.machine_model.specs.Machine.{Machine, copies, run, step}
use Rattle.machine_model.specs.Partition.{PartitionState}
use Rattle.machine_model.specs.View.{PartitionView, view_of}
use Rattle.machine_laws.specs.FromEqual.{TwoRunsFrom}
use Rattle.upset_laws.specs.UpsetLaws.{AllUpsetTicks, AreEqualUpset, HaltedIsNotStruck, OneUpsetTick, RunsPlain, TwoUpsetRuns, UpsetRunsAlone, UpsetTicksAlone, UpsetsAreContained}
use Rattle.upset_model.specs.Upsets.{Schedule, Strike, Upset, alone_struck, alone_upset_from, alone_upset_lines, alone_upset_said, later, no_upsets, own_strikes, ready, ready_unless, strikes_on, struck, struck_if, upset, upset_lines, upset_run, upset_said, upset_script, upsets}

-- lines of a partition
pub own_append : (p : ℕ) (xs ys : List ReportLine) → own p (xs ++ ys) ≡ own p xs ++ own p ys
unfolding own
own_append p xs ys = filter_append (λ line. is_number (tag_of line) p) xs ys

pub own_nil : (p : ℕ) → own p [] ≡ []
unfolding own
own_nil p = refl

-- a partition that is there, as a part of a machine
pub part_there : (g : Machine) (p : ℕ) (ps : PartitionState) → slice_get g.parts p ≡ Some ps → alone_part_at g p ≡ Some (part g p ps)
unfolding alone_part_at
part_there g p ps there = ap (λ o. on (part g p) o) there

state_at : (g : Machine) (p : ℕ) (a : Alone) (o : Option PartitionState) → on (part g p) o ≡ Some a → o ≡ Some a.state
unfolding part
state_at g p a None is = absurd cc
state_at g p a (Some ps) is = ap (λ (b : Alone). Some b.state) (same_Some (part g p ps) a is)

pub state_there : (g : Machine) (p : ℕ) (a : Alone) → alone_part_at g p ≡ Some a → slice_get g.parts p ≡ Some a.state
unfolding alone_part_at
state_there g p a is = state_at g p a (slice_get g.parts p) is

-- the partition that is struck, and any other
struck_at : (b : Bool) (strike : Strike) (o : Option PartitionState) → on (struck_if b strike) o ≡ (if b then on strike o else o)
struck_at true strike None = refl
struck_at true strike (Some ps) = refl
struck_at false strike None = refl
struck_at false strike (Some ps) = refl

pub upset_there : (u : Upset) (g : Machine) (q : ℕ) → slice_get (upset u g).parts q ≡ on (struck_if (u.part == q) u.strike) (slice_get g.parts q)
unfolding upset
upset_there u g q = get_each (λ p ps. struck_if (u.part == p) u.strike ps) g.parts q

upset_part : (u : Upset) (g : Machine) (q : ℕ) (ps : PartitionState) → part (upset u g) q ps ≡ part g q ps
unfolding part copies upset
upset_part u g q ps = refl

upset_at : (u : Upset) (g : Machine) (q : ℕ) → alone_part_at (upset u g) q ≡ on (part g q) (on (struck_if (u.part == q) u.strike) (slice_get g.parts q))
unfolding alone_part_at
upset_at u g q = by (slice_get (upset u g).parts q) ∙ ap (on (part g q)) (upset_there u g q)
  where
    by : (o : Option PartitionState) → on (part (upset u g) q) o ≡ on (part g q) o
    by None = refl
    by (Some ps) = ap Some (upset_part u g q ps)

upset_other : (u : Upset) (g : Machine) (q : ℕ) → (u.part == q) ≡ false → alone_part_at (upset u g) q ≡ alone_part_at g q
unfolding alone_part_at
upset_other u g q other = upset_at u g q ∙ ap (λ b. on (part g q) (on (struck_if b u.strike) (slice_get g.parts q))) other ∙ ap (on (part g q)) (struck_at false u.strike (slice_get g.parts q))

upset_rest : (u : Upset) (g : Machine) → upset u g ≡ record g { parts = (upset u g).parts }
unfolding upset
upset_rest u g = refl

pub upsets_are_contained : UpsetsAreContained
upsets_are_contained u g = record {
  others = upset_other u g;
  struck = let its : (u.part == u.part) ≡ true = grind (arith) in
      upset_there u g u.part ∙ ap (λ b. on (struck_if b u.strike) (slice_get g.parts u.part)) its ∙ struck_at true u.strike (slice_get g.parts u.part);
  rest = upset_rest u g;
}

-- what upsets leave as it was
upset_halted : (u : Upset) (g : Machine) → (upset u g).halted ≡ g.halted
unfolding upset
upset_halted u g = refl

upset_system : (u : Upset) (g : Machine) → (upset u g).system ≡ g.system
unfolding upset
upset_system u g = refl

upsets_halted : (us : List Upset) (g : Machine) → (upsets us g).halted ≡ g.halted
upsets_halted [] g = refl
upsets_halted (u ∷ us) g = upsets_halted us (upset u g) ∙ upset_halted u g

upsets_system : (us : List Upset) (g : Machine) → (upsets us g).system ≡ g.system
upsets_system [] g = refl
upsets_system (u ∷ us) g = upsets_system us (upset u g) ∙ upset_system u g

pub ready_runs : (us : List Upset) (g : Machine) → g.halted ≡ false → ready us g ≡ upsets us g
unfolding ready
ready_runs us g runs = ap (λ b. ready_unless b us g) runs

pub ready_halts : HaltedIsNotStruck
unfolding ready
ready_halts us g halts = ap (λ b. ready_unless b us g) halts

pub ready_halted : (us : List Upset) (g : Machine) → (ready us g).halted ≡ g.halted
ready_halted us g = by g.halted refl
  where
    by : (b : Bool) → g.halted ≡ b → (ready us g).halted ≡ g.halted
    by true halts = ap (λ (m : Machine). m.halted) (ready_halts us g halts)
    by false runs = ap (λ (m : Machine). m.halted) (ready_runs us g runs) ∙ upsets_halted us g

pub ready_system : (us : List Upset) (g : Machine) → (ready us g).system ≡ g.system
ready_system us g = by g.halted refl
  where
    by : (b : Bool) → g.halted ≡ b → (ready us g).system ≡ g.system
    by true halts = ap (λ (m : Machine). m.system) (ready_halts us g halts)
    by false runs = ap (λ (m : Machine). m.system) (ready_runs us g runs) ∙ upsets_system us g

-- a partition after the upsets before a tick
strikes_it : (p : ℕ) (us : List Upset) (g : Machine) (ps : PartitionState) → slice_get g.parts p ≡ Some ps → slice_get (upsets us g).parts p ≡ Some (struck (strikes_on p us) ps)
strikes_it p [] g ps there = there
strikes_it p (u ∷ us) g ps there = at (u.part == p) refl (strikes_it p us (upset u g))
  where
    at : (b : Bool) → (u.part == p) ≡ b
        → ((next : PartitionState) → slice_get (upset u g).parts p ≡ Some next → slice_get (upsets us (upset u g)).parts p ≡ Some (struck (strikes_on p us) next))
        → slice_get (upsets us (upset u g)).parts p ≡ Some (struck (if b then u.strike ∷ strikes_on p us else strikes_on p us) ps)
    at true its rest = rest (u.strike ps) (upset_there u g p ∙ ap (λ b. on (struck_if b u.strike) (slice_get g.parts p)) its ∙ ap (on (struck_if true u.strike)) there)
    at false other rest = rest ps (upset_there u g p ∙ ap (λ b. on (struck_if b u.strike) (slice_get g.parts p)) other ∙ ap (on (struck_if false u.strike)) there)

upsets_part : (us : List Upset) (g : Machine) (p : ℕ) (ps : PartitionState) → part (upsets us g) p ps ≡ part g p ps
upsets_part [] g p ps = refl
upsets_part (u ∷ us) g p ps = upsets_part us (upset u g) p ps ∙ upset_part u g p ps

struck_part : (strikes : List Strike) (g : Machine) (p : ℕ) (ps : PartitionState) → part g p (struck strikes ps) ≡ alone_struck strikes (part g p ps)
unfolding part alone_struck
struck_part strikes g p ps = refl

ready_there : (us : List Upset) (g : Machine) (p : ℕ) (ps : PartitionState) → g.halted ≡ false → slice_get g.parts p ≡ Some ps → slice_get (ready us g).parts p ≡ Some (struck (strikes_on p us) ps)
ready_there us g p ps runs there = ap (λ (m : Machine). slice_get m.parts p) (ready_runs us g runs) ∙ strikes_it p us g ps there

ready_part : (us : List Upset) (g : Machine) (p : ℕ) (ps : PartitionState) → g.halted ≡ false → part (ready us g) p (struck (strikes_on p us) ps) ≡ alone_struck (strikes_on p us) (part g p ps)
ready_part us g p ps runs = ap (λ m. part m p (struck (strikes_on p us) ps)) (ready_runs us g runs) ∙ upsets_part us g p (struck (strikes_on p us) ps) ∙ struck_part (strikes_on p us) g p ps

-- one tick
ticks_with : (us : List Upset) (g : Machine) (p : ℕ) (ps : PartitionState) → view_of (ready us g).system p ≡ view_of g.system p
    → alone_part_at (ready us g) p ≡ Some (part (ready us g) p (struck (strikes_on p us) ps))
    → part (ready us g) p (struck (strikes_on p us) ps) ≡ alone_struck (strikes_on p us) (part g p ps)
    → TicksAlone (ready us g) p (struck (strikes_on p us) ps) → UpsetTicksAlone us g p ps
ticks_with us g p ps same_view there same_part tick = record {
  before = there ∙ ap Some same_part;
  state = tick.state ∙ ap (λ v. Some (alone_step v (part (ready us g) p (struck (strikes_on p us) ps)) (cue (ready us g) p))) same_view
      ∙ ap (λ a. Some (alone_step (view_of g.system p) a (cue (ready us g) p))) same_part;
  lines = tick.lines ∙ ap (λ v. alone_step_lines v (part (ready us g) p (struck (strikes_on p us) ps)) (cue (ready us g) p)) same_view
      ∙ ap (λ a. alone_step_lines (view_of g.system p) a (cue (ready us g) p)) same_part;
  said = tick.said ∙ ap (λ v. alone_step_said v (part (ready us g) p (struck (strikes_on p us) ps)) (cue (ready us g) p)) same_view
      ∙ ap (λ a. alone_step_said (view_of g.system p) a (cue (ready us g) p)) same_part;
}

pub one_upset_tick : OneTick → OneUpsetTick
one_upset_tick one_tick us g p ps runs there =
    let is_there : slice_get (ready us g).parts p ≡ Some (struck (strikes_on p us) ps) = ready_there us g p ps runs there in
    ticks_with us g p ps (ap (λ system. view_of system p) (ready_system us g)) (part_there (ready us g) p (struck (strikes_on p us) ps) is_there)
    (ready_part us g p ps runs) (one_tick (ready us g) p (struck (strikes_on p us) ps) (ready_halted us g ∙ runs) is_there)

-- runs of a machine that has halted
halted_step_lines : (g : Machine) → g.halted ≡ true → step_lines g ≡ []
unfolding step_lines
halted_step_lines g halts = ap (λ b. lines_unless b g) halts

halted_step_said : (g : Machine) (p : ℕ) → g.halted ≡ true → step_said g p ≡ []
unfolding step_said
halted_step_said g p halts = ap (λ b. said_unless b g p) halts

pub step_ready_halts : (us : List Upset) (g : Machine) → g.halted ≡ true → step (ready us g) ≡ g
step_ready_halts us g halts = ap step (ready_halts us g halts) ∙ step_halted g halts

halted_upset_run : (count : ℕ) (s : Schedule) (g : Machine) → g.halted ≡ true → upset_run s g count ≡ g
halted_upset_run zero s g halts = refl
halted_upset_run (suc count) s g halts = ap (λ m. upset_run (later s) m count) (step_ready_halts (s 0) g halts) ∙ halted_upset_run count (later s) g halts

halted_upset_lines : (count : ℕ) (s : Schedule) (g : Machine) → g.halted ≡ true → upset_lines s g count ≡ []
halted_upset_lines zero s g halts = refl
halted_upset_lines (suc count) s g halts =
    ap (λ m. step_lines m ++ upset_lines (later s) (step (ready (s 0) g)) count) (ready_halts (s 0) g halts)
    ∙ ap (λ l. l ++ upset_lines (later s) (step (ready (s 0) g)) count) (halted_step_lines g halts)
    ∙ ap (λ m. upset_lines (later s) m count) (step_ready_halts (s 0) g halts) ∙ halted_upset_lines count (later s) g halts

halted_upset_said : (count : ℕ) (s : Schedule) (g : Machine) (p : ℕ) → g.halted ≡ true → upset_said s g count p ≡ []
halted_upset_said zero s g p halts = refl
halted_upset_said (suc count) s g p halts =
    ap (λ m. step_said m p ++ upset_said (later s) (step (ready (s 0) g)) count p) (ready_halts (s 0) g halts)
    ∙ ap (λ l. l ++ upset_said (later s) (step (ready (s 0) g)) count p) (halted_step_said g p halts)
    ∙ ap (λ m. upset_said (later s) m count p) (step_ready_halts (s 0) g halts) ∙ halted_upset_said count (later s) g p halts

pub no_upset_script : (count : ℕ) (s : Schedule) (g : Machine) (p : ℕ) → g.halted ≡ true → upset_script s g p count ≡ []
no_upset_script zero s g p halts = refl
no_upset_script (suc count) s g p halts =
    ap (λ b. script_unless b (cue (ready (s 0) g) p) (upset_script (later s) (step (ready (s 0) g)) p count)) halts

pub more_upset_script : (count : ℕ) (s : Schedule) (g : Machine) (p : ℕ) → g.halted ≡ false
    → upset_script s g p (suc count) ≡ cue (ready (s 0) g) p ∷ upset_script (later s) (step (ready (s 0) g)) p count
more_upset_script count s g p runs =
    ap (λ b. script_unless b (cue (ready (s 0) g) p) (upset_script (later s) (step (ready (s 0) g)) p count)) runs

halted_upset_alone : (count : ℕ) (s : Schedule) (g : Machine) (p : ℕ) (ps : PartitionState) → g.halted ≡ true → slice_get g.parts p ≡ Some ps → UpsetRunsAlone s g p ps count
halted_upset_alone count s g p ps halts there = record {
  state = ap (λ m. alone_part_at m p) (halted_upset_run count s g halts) ∙ part_there g p ps there
      ∙ ap (λ cues. Some (alone_upset_from (view_of g.system p) (own_strikes p s) (part g p ps) cues)) (sym (no_upset_script count s g p halts));
  lines = ap (own p) (halted_upset_lines count s g halts) ∙ own_nil p
      ∙ ap (alone_upset_lines (view_of g.system p) (own_strikes p s) (part g p ps)) (sym (no_upset_script count s g p halts));
  said = halted_upset_said count s g p halts
      ∙ ap (alone_upset_said (view_of g.system p) (own_strikes p s) (part g p ps)) (sym (no_upset_script count s g p halts));
}

-- one tick, and then the others
further : (s : Schedule) (g : Machine) (p : ℕ) (ps next : PartitionState) (count : ℕ) → g.halted ≡ false
    → UpsetTicksAlone (s 0) g p ps
    → view_of (step (ready (s 0) g)).system p ≡ view_of g.system p
    → part (step (ready (s 0) g)) p next ≡ alone_step (view_of g.system p) (alone_struck (strikes_on p (s 0)) (part g p ps)) (cue (ready (s 0) g) p)
    → UpsetRunsAlone (later s) (step (ready (s 0) g)) p next count → UpsetRunsAlone s g p ps (suc count)
further s g p ps next count runs tick same_view same_part rest =
    let after_it : Machine = step (ready (s 0) g) in
    let cues : List Cue = upset_script (later s) after_it p count in
    record {
      state = rest.state
          ∙ ap (λ v. Some (alone_upset_from v (own_strikes p (later s)) (part after_it p next) cues)) same_view
          ∙ ap (λ a. Some (alone_upset_from (view_of g.system p) (own_strikes p (later s)) a cues)) same_part
          ∙ ap (λ all. Some (alone_upset_from (view_of g.system p) (own_strikes p s) (part g p ps) all)) (sym (more_upset_script count s g p runs));
      lines = own_append p (step_lines (ready (s 0) g)) (upset_lines (later s) after_it count)
          ∙ ap (λ l. l ++ own p (upset_lines (later s) after_it count)) tick.lines
          ∙ ap (λ l. alone_step_lines (view_of g.system p) (alone_struck (strikes_on p (s 0)) (part g p ps)) (cue (ready (s 0) g) p) ++ l) (rest.lines
          ∙ ap (λ v. alone_upset_lines v (own_strikes p (later s)) (part after_it p next) cues) same_view
          ∙ ap (λ a. alone_upset_lines (view_of g.system p) (own_strikes p (later s)) a cues) same_part)
          ∙ ap (alone_upset_lines (view_of g.system p) (own_strikes p s) (part g p ps)) (sym (more_upset_script count s g p runs));
      said = ap (λ l. l ++ upset_said (later s) after_it count p) tick.said
          ∙ ap (λ l. alone_step_said (view_of g.system p) (alone_struck (strikes_on p (s 0)) (part g p ps)) (cue (ready (s 0) g) p) ++ l) (rest.said
          ∙ ap (λ v. alone_upset_said v (own_strikes p (later s)) (part after_it p next) cues) same_view
          ∙ ap (λ a. alone_upset_said (view_of g.system p) (own_strikes p (later s)) a cues) same_part)
          ∙ ap (alone_upset_said (view_of g.system p) (own_strikes p s) (part g p ps)) (sym (more_upset_script count s g p runs));
    }

pub step_ready_view : KeepsNumbers → (us : List Upset) (g : Machine) (p : ℕ) → view_of (step (ready us g)).system p ≡ view_of g.system p
step_ready_view numbers us g p = ap (λ system. view_of system p) ((numbers (ready us g)).system ∙ ready_system us g)

pub all_upset_ticks : OneUpsetTick → KeepsNumbers → AllUpsetTicks
all_upset_ticks one_tick numbers zero s g p ps there = record { state = part_there g p ps there; lines = own_nil p; said = refl }
all_upset_ticks one_tick numbers (suc count) s g p ps there = at g.halted refl (all_upset_ticks one_tick numbers count (later s) (step (ready (s 0) g)) p)
  where
    at : (b : Bool) → g.halted ≡ b
        → ((next : PartitionState) → slice_get (step (ready (s 0) g)).parts p ≡ Some next → UpsetRunsAlone (later s) (step (ready (s 0) g)) p next count)
        → UpsetRunsAlone s g p ps (suc count)
    at true halts rest = halted_upset_alone (suc count) s g p ps halts there
    at false runs rest =
        let tick : UpsetTicksAlone (s 0) g p ps = one_tick (s 0) g p ps runs there in
        let a : Alone = alone_step (view_of g.system p) (alone_struck (strikes_on p (s 0)) (part g p ps)) (cue (ready (s 0) g) p) in
        let next_there : slice_get (step (ready (s 0) g)).parts p ≡ Some a.state = state_there (step (ready (s 0) g)) p a tick.state in
        further s g p ps a.state count runs tick (step_ready_view numbers (s 0) g p)
        (same_Some _ _ (sym (part_there (step (ready (s 0) g)) p a.state next_there) ∙ tick.state)) (rest a.state next_there)

-- scripts are no longer than the ticks, and those of fewer ticks are their beginnings
pub script_short : (count : ℕ) (s : Schedule) (g : Machine) (p : ℕ) → length (upset_script s g p count) ≤ count
script_short zero s g p = omega arith
script_short (suc count) s g p = by g.halted (script_short count (later s) (step (ready (s 0) g)) p)
  where
    by : (b : Bool) → length (upset_script (later s) (step (ready (s 0) g)) p count) ≤ count
        → length (script_unless b (cue (ready (s 0) g) p) (upset_script (later s) (step (ready (s 0) g)) p count)) ≤ suc count
    by true rest = omega arith
    by false rest = omega (arith, rest)

pub first_cues : ℕ → List Cue → List Cue
first_cues zero cues = []
first_cues (suc count) [] = []
first_cues (suc count) (one ∷ cues) = one ∷ first_cues count cues

pub script_begins : (fewer count : ℕ) (s : Schedule) (g : Machine) (p : ℕ) → fewer ≤ count → upset_script s g p fewer ≡ first_cues fewer (upset_script s g p count)
unfolding first_cues
script_begins zero count s g p below = refl
script_begins (suc fewer) zero s g p below = absurd (omega (arith, below))
script_begins (suc fewer) (suc count) s g p below = at g.halted (script_begins fewer count (later s) (step (ready (s 0) g)) p (omega (arith, below)))
  where
    at : (b : Bool) → upset_script (later s) (step (ready (s 0) g)) p fewer ≡ first_cues fewer (upset_script (later s) (step (ready (s 0) g)) p count)
        → script_unless b (cue (ready (s 0) g) p) (upset_script (later s) (step (ready (s 0) g)) p fewer)
        ≡ first_cues (suc fewer) (script_unless b (cue (ready (s 0) g) p) (upset_script (later s) (step (ready (s 0) g)) p count))
    at true rest = refl
    at false rest = ap (λ cues. cue (ready (s 0) g) p ∷ cues) rest

-- a partition alone, with the same upsets
same_from : (cues : List Cue) (count : ℕ) (one other : ℕ → List Strike) (view : PartitionView) (a : Alone) → length cues ≤ count → ((k : ℕ) → k < count → one k ≡ other k)
    → alone_upset_from view one a cues ≡ alone_upset_from view other a cues
same_from [] count one other view a short same = refl
same_from (now ∷ cues) zero one other view a short same = absurd (omega (arith, short))
same_from (now ∷ cues) (suc count) one other view a short same =
    ap (λ strikes. alone_upset_from view (later one) (alone_step view (alone_struck strikes a) now) cues) (same 0 (omega arith))
    ∙ same_from cues count (later one) (later other) view (alone_step view (alone_struck (other 0) a) now) (omega (arith, short)) (λ k below. same (suc k) (omega (arith, below)))

same_lines : (cues : List Cue) (count : ℕ) (one other : ℕ → List Strike) (view : PartitionView) (a : Alone) → length cues ≤ count → ((k : ℕ) → k < count → one k ≡ other k)
    → alone_upset_lines view one a cues ≡ alone_upset_lines view other a cues
same_lines [] count one other view a short same = refl
same_lines (now ∷ cues) zero one other view a short same = absurd (omega (arith, short))
same_lines (now ∷ cues) (suc count) one other view a short same =
    ap (λ strikes. alone_step_lines view (alone_struck strikes a) now ++ alone_upset_lines view (later one) (alone_step view (alone_struck strikes a) now) cues) (same 0 (omega arith))
    ∙ ap (λ l. alone_step_lines view (alone_struck (other 0) a) now ++ l)
    (same_lines cues count (later one) (later other) view (alone_step view (alone_struck (other 0) a) now) (omega (arith, short)) (λ k below. same (suc k) (omega (arith, below))))

same_said : (cues : List Cue) (count : ℕ) (one other : ℕ → List Strike) (view : PartitionView) (a : Alone) → length cues ≤ count → ((k : ℕ) → k < count → one k ≡ other k)
    → alone_upset_said view one a cues ≡ alone_upset_said view other a cues
same_said [] count one other view a short same = refl
same_said (now ∷ cues) zero one other view a short same = absurd (omega (arith, short))
same_said (now ∷ cues) (suc count) one other view a short same =
    ap (λ strikes. alone_step_said view (alone_struck strikes a) now ++ alone_upset_said view (later one) (alone_step view (alone_struck strikes a) now) cues) (same 0 (omega arith))
    ∙ ap (λ l. alone_step_said view (alone_struck (other 0) a) now ++ l)
    (same_said cues count (later one) (later other) view (alone_step view (alone_struck (other 0) a) now) (omega (arith, short)) (λ k below. same (suc k) (omega (arith, below))))

-- core files of equal parts
pub upset_run_system : KeepsNumbers → (count : ℕ) (s : Schedule) (g : Machine) → (upset_run s g count).system ≡ g.system
upset_run_system numbers zero s g = refl
upset_run_system numbers (suc count) s g = upset_run_system numbers count (later s) (step (ready (s 0) g)) ∙ (numbers (ready (s 0) g)).system ∙ ready_system (s 0) g

pub core_file_there : (g : Machine) (p : ℕ) (a : Alone) → slice_get g.parts p ≡ Some a.state → core_file_of g p ≡ Some (core_file (view_of g.system p) a.state)
unfolding core_file_of
core_file_there g p a there = ap (on (core_file (view_of g.system p))) there

file_is : KeepsNumbers → (count : ℕ) (s : Schedule) (g : Machine) (p : ℕ) (a : Alone) → alone_part_at (upset_run s g count) p ≡ Some a → core_file_of (upset_run s g count) p ≡ Some (core_file (view_of g.system p) a.state)
file_is numbers count s g p a is =
    core_file_there (upset_run s g count) p a (state_there (upset_run s g count) p a is)
    ∙ ap (λ system. Some (core_file (view_of system p) a.state)) (upset_run_system numbers count s g)

-- two runs
equal_at : KeepsNumbers → (s : Schedule) (one : Machine) (t : Schedule) (other : Machine) (p count : ℕ) (state : PartitionState) (a : Alone)
    → part one p state ≡ a → part other p state ≡ a → view_of one.system p ≡ view_of other.system p
    → ((k : ℕ) → k < count → own_strikes p s k ≡ own_strikes p t k)
    → upset_script s one p count ≡ upset_script t other p count
    → UpsetRunsAlone s one p state count → UpsetRunsAlone t other p state count → AreEqualUpset s one t other p count
equal_at numbers s one t other p count state a first second view strikes script runs also =
    let cues : List Cue = upset_script t other p count in
    let short : length cues ≤ count = script_short count t other p in
    let v = view_of other.system p in
    let both : alone_part_at (upset_run s one count) p ≡ Some (alone_upset_from v (own_strikes p t) a cues) =
    runs.state ∙ ap (λ w. Some (alone_upset_from w (own_strikes p s) (part one p state) (upset_script s one p count))) view
    ∙ ap (λ all. Some (alone_upset_from v (own_strikes p s) (part one p state) all)) script
    ∙ ap (λ b. Some (alone_upset_from v (own_strikes p s) b cues)) first
    ∙ ap Some (same_from cues count (own_strikes p s) (own_strikes p t) v a short strikes) in
    let too : alone_part_at (upset_run t other count) p ≡ Some (alone_upset_from v (own_strikes p t) a cues) =
    also.state ∙ ap (λ b. Some (alone_upset_from v (own_strikes p t) b cues)) second in
    record {
      state = both ∙ sym too;
      lines = runs.lines ∙ ap (λ w. alone_upset_lines w (own_strikes p s) (part one p state) (upset_script s one p count)) view
          ∙ ap (λ all. alone_upset_lines v (own_strikes p s) (part one p state) all) script
          ∙ ap (λ b. alone_upset_lines v (own_strikes p s) b cues) first
          ∙ same_lines cues count (own_strikes p s) (own_strikes p t) v a short strikes
          ∙ ap (λ b. alone_upset_lines v (own_strikes p t) b cues) (sym second) ∙ sym also.lines;
      said = runs.said ∙ ap (λ w. alone_upset_said w (own_strikes p s) (part one p state) (upset_script s one p count)) view
          ∙ ap (λ all. alone_upset_said v (own_strikes p s) (part one p state) all) script
          ∙ ap (λ b. alone_upset_said v (own_strikes p s) b cues) first
          ∙ same_said cues count (own_strikes p s) (own_strikes p t) v a short strikes
          ∙ ap (λ b. alone_upset_said v (own_strikes p t) b cues) (sym second) ∙ sym also.said;
      core_file = file_is numbers count s one p (alone_upset_from v (own_strikes p t) a cues) both
          ∙ ap (λ w. Some (core_file w (alone_upset_from v (own_strikes p t) a cues).state)) view
          ∙ sym (file_is numbers count t other p (alone_upset_from v (own_strikes p t) a cues) too);
    }

-- a part of a machine is of the state that is there
part_state : (g : Machine) (q : ℕ) (ps : PartitionState) → (part g q ps).state ≡ ps
unfolding part
part_state g q ps = refl

other_there : (one other : Machine) (p : ℕ) (state : PartitionState) → alone_part_at one p ≡ alone_part_at other p → slice_get one.parts p ≡ Some state
    → slice_get other.parts p ≡ Some state
other_there one other p state same there = state_there other p (part one p state) (sym same ∙ part_there one p state there) ∙ ap Some (part_state one p state)

pub two_upset_runs : AllUpsetTicks → KeepsNumbers → TwoUpsetRuns
two_upset_runs all numbers s one t other p count fewer below alike =
    let there : slice_get other.parts p ≡ Some alike.state = other_there one other p alike.state alike.part alike.there in
    equal_at numbers s one t other p fewer alike.state (part other p alike.state)
    (same_Some _ _ (sym (part_there one p alike.state alike.there) ∙ alike.part ∙ part_there other p alike.state there)) refl alike.view
    (λ k less. alike.strikes k (omega (arith, less, below)))
    (script_begins fewer count s one p below ∙ ap (first_cues fewer) alike.script ∙ sym (script_begins fewer count t other p below))
    (all fewer s one p alike.state alike.there) (all fewer t other p alike.state there)

-- a run without upsets
pub ready_none : (g : Machine) → ready [] g ≡ g
ready_none g = by g.halted refl
  where
    by : (b : Bool) → g.halted ≡ b → ready [] g ≡ g
    by true halts = ready_halts [] g halts
    by false runs = ready_runs [] g runs

plain_run : (count : ℕ) (g : Machine) → upset_run no_upsets g count ≡ run g count
plain_run zero g = refl
plain_run (suc count) g = ap (λ m. upset_run no_upsets (step m) count) (ready_none g) ∙ plain_run count (step g)

plain_lines : (count : ℕ) (g : Machine) → upset_lines no_upsets g count ≡ lines g count
plain_lines zero g = refl
plain_lines (suc count) g =
    ap (λ m. step_lines m ++ upset_lines no_upsets (step m) count) (ready_none g) ∙ ap (λ l. step_lines g ++ l) (plain_lines count (step g))

plain_said : (count : ℕ) (g : Machine) (p : ℕ) → upset_said no_upsets g count p ≡ said g count p
plain_said zero g p = refl
plain_said (suc count) g p =
    ap (λ m. step_said m p ++ upset_said no_upsets (step m) count p) (ready_none g) ∙ ap (λ l. step_said g p ++ l) (plain_said count (step g) p)

plain_script : (count : ℕ) (g : Machine) (p : ℕ) → upset_script no_upsets g p count ≡ script g p count
plain_script zero g p = refl
plain_script (suc count) g p =
    ap (λ m. script_unless g.halted (cue m p) (upset_script no_upsets (step m) p count)) (ready_none g)
    ∙ ap (λ cues. script_unless g.halted (cue g p) cues) (plain_script count (step g) p)

pub runs_plain : RunsPlain
runs_plain g count = record { state = plain_run count g; lines = plain_lines count g; said = plain_said count g; script = plain_script count g }

pub two_runs_from : TwoUpsetRuns → TwoRunsFrom
two_runs_from law one other p count fewer below alike =
    let first = runs_plain one fewer in
    let second = runs_plain other fewer in
    let same : AreEqualUpset no_upsets one no_upsets other p fewer = law no_upsets one no_upsets other p count fewer below (record {
      state = alike.state;
      there = alike.there;
      part = alike.part;
      view = alike.view;
      strikes = λ k less. refl;
      script = (runs_plain one count).script p ∙ alike.script ∙ sym ((runs_plain other count).script p);
    }) in
    record {
      state = ap (λ m. alone_part_at m p) (sym first.state) ∙ same.state ∙ ap (λ m. alone_part_at m p) second.state;
      lines = ap (own p) (sym first.lines) ∙ same.lines ∙ ap (own p) second.lines;
      said = sym (first.said p) ∙ same.said ∙ second.said p;
      core_file = ap (λ m. core_file_of m p) (sym first.state) ∙ same.core_file ∙ ap (λ m. core_file_of m p) second.state;
    }
