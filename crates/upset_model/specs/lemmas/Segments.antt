-- For proofs: runs with upsets by pieces: two of them one after the other, ticks before which no upsets strike but at the first, and a machine that has halted.
use Rattle.std.proofs.Common.{◌≡◌, ℕ, zero, suc, ◌+◌, ◌<◌, Bool, true, false, List, [], ◌∷◌, ◌++◌, refl, sym, ap, ◌∙◌, arith, append_assoc}
use Rattle.std.specs.Prelude.{map}
use Rattle.std.proofs.Math.Nat.{suc-add, zero-add}
use Rattle.xm_report.specs.Report.{ReportLine}
use Rattle.machine_model.specs.lemmas.TickLemmas.{step_halted}
use Rattle.machine_model.specs.Cue.{cue, script, script_unless}
use Rattle.machine_model.specs.Lines.{console, lines, lines_unless, said, step_console, step_lines, step_said}
use Rattle.machine_model.specs.Machine.{Machine, run, step}
use Rattle.upset_model.specs.Places.{Timetable, upset_of, upsets_of}
use Rattle.upset_model.specs.Reports.{reported, reported_to, struck_lines, upset_console}
use Rattle.upset_model.specs.Upsets.{Schedule, Upset, later, ready, ready_unless, upset, upset_run, upset_said, upset_script, upsets}
use Rattle.upset_model.specs.declared.upset_line.UpsetLine.{UpsetLine}

-- what comes after this many ticks
abbrev pub from : {X : Type 0} → ℕ → (ℕ → X) → ℕ → X
from zero f = f
from (suc done) f = from done (later f)

pub from_at : {X : Type 0} (j k : ℕ) (f : ℕ → X) → from j f k ≡ f (j + k)
from_at zero k f = ap f (sym (zero-add k))
from_at (suc j) k f = from_at j k (later f) ∙ ap f (sym (suc-add j k))

-- no upsets strike before any of these ticks
abbrev pub AreNone : {X : Type 0} → ℕ → (ℕ → List X) → Type 0
AreNone count f = (k : ℕ) → k < count → f k ≡ []

-- none strike before any of these ticks but the first
abbrev pub AreNoneLater : {X : Type 0} → ℕ → (ℕ → List X) → Type 0
AreNoneLater count f = (k : ℕ) → suc k < count → f (suc k) ≡ []

-- a machine that has halted is not struck, and one that no upset strikes is as it was
pub ready_halts : (us : List Upset) (g : Machine) → g.halted ≡ true → ready us g ≡ g
unfolding ready
ready_halts us g halts = ap (λ b. ready_unless b us g) halts

pub ready_none : (g : Machine) → ready [] g ≡ g
unfolding ready
ready_none g = by g.halted
  where
    by : (b : Bool) → ready_unless b [] g ≡ g
    by true = refl
    by false = refl

-- what upsets leave as it was
record Leaves (g new : Machine) : Type 0 where
  halted : new.halted ≡ g.halted
  ticks : new.ticks ≡ g.ticks
  system : new.system ≡ g.system

leaves_then : (g mid new : Machine) → Leaves g mid → Leaves mid new → Leaves g new
leaves_then g mid new first second = record {
  halted = second.halted ∙ first.halted;
  ticks = second.ticks ∙ first.ticks;
  system = second.system ∙ first.system;
}

upset_leaves : (u : Upset) (g : Machine) → Leaves g (upset u g)
unfolding upset
upset_leaves u g = record { halted = refl; ticks = refl; system = refl }

upsets_leave : (us : List Upset) (g : Machine) → Leaves g (upsets us g)
upsets_leave [] g = record { halted = refl; ticks = refl; system = refl }
upsets_leave (u ∷ us) g = leaves_then g (upset u g) (upsets us (upset u g)) (upset_leaves u g) (upsets_leave us (upset u g))

ready_leaves : (us : List Upset) (g : Machine) → Leaves g (ready us g)
unfolding ready
ready_leaves us g = by g.halted
  where
    by : (b : Bool) → Leaves g (ready_unless b us g)
    by true = record { halted = refl; ticks = refl; system = refl }
    by false = upsets_leave us g

pub ready_halted : (us : List Upset) (g : Machine) → (ready us g).halted ≡ g.halted
ready_halted us g = (ready_leaves us g).halted

pub ready_ticks : (us : List Upset) (g : Machine) → (ready us g).ticks ≡ g.ticks
ready_ticks us g = (ready_leaves us g).ticks

pub ready_system : (us : List Upset) (g : Machine) → (ready us g).system ≡ g.system
ready_system us g = (ready_leaves us g).system

-- a tick of a machine that has halted, upsets or not
halted_step : (us : List Upset) (g : Machine) → g.halted ≡ true → step (ready us g) ≡ g
halted_step us g halts = ap step (ready_halts us g halts) ∙ step_halted g halts

halted_lines : (g : Machine) → g.halted ≡ true → step_lines g ≡ []
unfolding step_lines
halted_lines g halts = ap (λ b. lines_unless b g) halts

-- it stays as it is, whatever is to strike it,
pub upset_run_halted : (count : ℕ) (s : Schedule) (g : Machine) → g.halted ≡ true → upset_run s g count ≡ g
upset_run_halted zero s g halts = refl
upset_run_halted (suc count) s g halts = ap (λ (m : Machine). upset_run (later s) m count) (halted_step (s 0) g halts) ∙ upset_run_halted count (later s) g halts

-- and prints nothing
pub reported_halted : (count : ℕ) (t : Timetable) (g : Machine) → g.halted ≡ true → reported t g count ≡ []
reported_halted zero t g halts = refl
reported_halted (suc count) t g halts =
    ap (λ b. struck_lines b (t 0) ++ step_lines (ready (map upset_of (t 0)) g) ++ reported (later t) (step (ready (map upset_of (t 0)) g)) count) halts
    ∙ ap (λ (first : List ReportLine). first ++ reported (later t) (step (ready (map upset_of (t 0)) g)) count)
    (ap step_lines (ready_halts (map upset_of (t 0)) g halts) ∙ halted_lines g halts)
    ∙ ap (λ (m : Machine). reported (later t) m count) (halted_step (map upset_of (t 0)) g halts)
    ∙ reported_halted count (later t) g halts

-- two pieces: the machine after them,
pub upset_run_add : (j k : ℕ) (s : Schedule) (g : Machine) → upset_run s g (j + k) ≡ upset_run (from j s) (upset_run s g j) k
upset_run_add zero k s g = ap (upset_run s g) (zero-add k)
upset_run_add (suc j) k s g = ap (upset_run s g) (suc-add j k) ∙ upset_run_add j k (later s) (step (ready (s 0) g))

-- what they report,
pub reported_add : (j k : ℕ) (t : Timetable) (g : Machine) → reported t g (j + k) ≡ reported t g j ++ reported (from j t) (upset_run (upsets_of t) g j) k
reported_add zero k t g = ap (reported t g) (zero-add k)
reported_add (suc j) k t g =
    ap (reported t g) (suc-add j k)
    ∙ ap (λ rest. struck_lines g.halted (t 0) ++ step_lines (ready (map upset_of (t 0)) g) ++ rest) (reported_add j k (later t) (step (ready (map upset_of (t 0)) g)))
    ∙ sym (append_assoc (struck_lines g.halted (t 0) ++ step_lines (ready (map upset_of (t 0)) g)) (reported (later t) (step (ready (map upset_of (t 0)) g)) j)
    (reported (from (suc j) t) (upset_run (upsets_of t) g (suc j)) k))

-- the bytes that a UART gets,
pub upset_console_add : (j k : ℕ) (s : Schedule) (g : Machine) (uart : ℕ) → upset_console s g (j + k) uart ≡ upset_console s g j uart ++ upset_console (from j s) (upset_run s g j) k uart
upset_console_add zero k s g uart = ap (λ n. upset_console s g n uart) (zero-add k)
upset_console_add (suc j) k s g uart =
    ap (λ n. upset_console s g n uart) (suc-add j k)
    ∙ ap (λ rest. step_console (ready (s 0) g) uart ++ rest) (upset_console_add j k (later s) (step (ready (s 0) g)) uart)
    ∙ sym (append_assoc (step_console (ready (s 0) g) uart) (upset_console (later s) (step (ready (s 0) g)) j uart) (upset_console (from (suc j) s) (upset_run s g (suc j)) k uart))

-- those that a partition writes to its console,
pub upset_said_add : (j k : ℕ) (s : Schedule) (g : Machine) (p : ℕ) → upset_said s g (j + k) p ≡ upset_said s g j p ++ upset_said (from j s) (upset_run s g j) k p
upset_said_add zero k s g p = ap (λ n. upset_said s g n p) (zero-add k)
upset_said_add (suc j) k s g p =
    ap (λ n. upset_said s g n p) (suc-add j k)
    ∙ ap (λ rest. step_said (ready (s 0) g) p ++ rest) (upset_said_add j k (later s) (step (ready (s 0) g)) p)
    ∙ sym (append_assoc (step_said (ready (s 0) g) p) (upset_said (later s) (step (ready (s 0) g)) j p) (upset_said (from (suc j) s) (upset_run s g (suc j)) k p))

-- and what it receives
pub upset_script_halted : (count : ℕ) (s : Schedule) (g : Machine) (p : ℕ) → g.halted ≡ true → upset_script s g p count ≡ []
upset_script_halted zero s g p halts = refl
upset_script_halted (suc count) s g p halts = ap (λ b. script_unless b (cue (ready (s 0) g) p) (upset_script (later s) (step (ready (s 0) g)) p count)) halts

pub upset_script_add : (j k : ℕ) (s : Schedule) (g : Machine) (p : ℕ) → upset_script s g p (j + k) ≡ upset_script s g p j ++ upset_script (from j s) (upset_run s g j) p k
upset_script_add zero k s g p = ap (upset_script s g p) (zero-add k)
upset_script_add (suc j) k s g p = ap (upset_script s g p) (suc-add j k) ∙ at g.halted refl (upset_script_add j k (later s) (step (ready (s 0) g)) p)
  where
    at : (b : Bool) → g.halted ≡ b
        → upset_script (later s) (step (ready (s 0) g)) p (j + k)
        ≡ upset_script (later s) (step (ready (s 0) g)) p j ++ upset_script (from (suc j) s) (upset_run s g (suc j)) p k
        → script_unless b (cue (ready (s 0) g) p) (upset_script (later s) (step (ready (s 0) g)) p (j + k))
        ≡ script_unless b (cue (ready (s 0) g) p) (upset_script (later s) (step (ready (s 0) g)) p j) ++ upset_script (from (suc j) s) (upset_run s g (suc j)) p k
    at true halts more =
        sym (upset_script_halted k (from (suc j) s) (upset_run s g (suc j)) p (ap (λ (m : Machine). m.halted) (upset_run_halted (suc j) s g halts) ∙ halts))
    at false runs more = ap (λ rest. cue (ready (s 0) g) p ∷ rest) more

-- ticks before which no upset strikes are those of a run
none_run : (count : ℕ) (s : Schedule) (g : Machine) → AreNone count s → upset_run s g count ≡ run g count
none_run zero s g none = refl
none_run (suc count) s g none =
    ap (λ (us : List Upset). upset_run (later s) (step (ready us g)) count) (none 0 (omega arith))
    ∙ ap (λ (m : Machine). upset_run (later s) (step m) count) (ready_none g)
    ∙ none_run count (later s) (step g) (λ k below. none (suc k) (omega (arith, below)))

none_struck : (b : Bool) → struck_lines b [] ≡ []
none_struck true = refl
none_struck false = refl

none_reported : (count : ℕ) (t : Timetable) (g : Machine) → AreNone count t → reported t g count ≡ lines g count
none_reported zero t g none = refl
none_reported (suc count) t g none =
    ap (λ (ls : List UpsetLine). struck_lines g.halted ls ++ step_lines (ready (map upset_of ls) g) ++ reported (later t) (step (ready (map upset_of ls) g)) count) (none 0 (omega arith))
    ∙ ap (λ (first : List ReportLine). first ++ step_lines (ready [] g) ++ reported (later t) (step (ready [] g)) count) (none_struck g.halted)
    ∙ ap (λ (m : Machine). step_lines m ++ reported (later t) (step m) count) (ready_none g)
    ∙ ap (λ rest. step_lines g ++ rest) (none_reported count (later t) (step g) (λ k below. none (suc k) (omega (arith, below))))

none_console : (count : ℕ) (s : Schedule) (g : Machine) (uart : ℕ) → AreNone count s → upset_console s g count uart ≡ console g count uart
none_console zero s g uart none = refl
none_console (suc count) s g uart none =
    ap (λ (us : List Upset). step_console (ready us g) uart ++ upset_console (later s) (step (ready us g)) count uart) (none 0 (omega arith))
    ∙ ap (λ (m : Machine). step_console m uart ++ upset_console (later s) (step m) count uart) (ready_none g)
    ∙ ap (λ rest. step_console g uart ++ rest) (none_console count (later s) (step g) uart (λ k below. none (suc k) (omega (arith, below))))

none_said : (count : ℕ) (s : Schedule) (g : Machine) (p : ℕ) → AreNone count s → upset_said s g count p ≡ said g count p
none_said zero s g p none = refl
none_said (suc count) s g p none =
    ap (λ (us : List Upset). step_said (ready us g) p ++ upset_said (later s) (step (ready us g)) count p) (none 0 (omega arith))
    ∙ ap (λ (m : Machine). step_said m p ++ upset_said (later s) (step m) count p) (ready_none g)
    ∙ ap (λ rest. step_said g p ++ rest) (none_said count (later s) (step g) p (λ k below. none (suc k) (omega (arith, below))))

none_script : (count : ℕ) (s : Schedule) (g : Machine) (p : ℕ) → AreNone count s → upset_script s g p count ≡ script g p count
none_script zero s g p none = refl
none_script (suc count) s g p none =
    ap (λ (us : List Upset). script_unless g.halted (cue (ready us g) p) (upset_script (later s) (step (ready us g)) p count)) (none 0 (omega arith))
    ∙ ap (λ (m : Machine). script_unless g.halted (cue m p) (upset_script (later s) (step m) p count)) (ready_none g)
    ∙ ap (λ rest. script_unless g.halted (cue g p) rest) (none_script count (later s) (step g) p (λ k below. none (suc k) (omega (arith, below))))

-- ticks of which upsets strike before the first alone are those of the machine that they leave: the machine after them,
pub first_run : (count : ℕ) (s : Schedule) (g : Machine) → AreNoneLater (suc count) s → upset_run s g (suc count) ≡ run (ready (s 0) g) (suc count)
first_run count s g none = none_run count (later s) (step (ready (s 0) g)) (λ k below. none k (omega (arith, below)))

-- what they report, after a line for each upset that strikes,
pub first_reported : (count : ℕ) (t : Timetable) (g : Machine) → AreNoneLater (suc count) t
    → reported t g (suc count) ≡ struck_lines g.halted (t 0) ++ lines (ready (map upset_of (t 0)) g) (suc count)
first_reported count t g none =
    ap (λ rest. struck_lines g.halted (t 0) ++ step_lines (ready (map upset_of (t 0)) g) ++ rest)
    (none_reported count (later t) (step (ready (map upset_of (t 0)) g)) (λ k below. none k (omega (arith, below))))
    ∙ append_assoc (struck_lines g.halted (t 0)) (step_lines (ready (map upset_of (t 0)) g)) (lines (step (ready (map upset_of (t 0)) g)) count)

-- the bytes that a UART gets,
pub first_console : (count : ℕ) (s : Schedule) (g : Machine) (uart : ℕ) → AreNoneLater (suc count) s → upset_console s g (suc count) uart ≡ console (ready (s 0) g) (suc count) uart
first_console count s g uart none =
    ap (λ rest. step_console (ready (s 0) g) uart ++ rest) (none_console count (later s) (step (ready (s 0) g)) uart (λ k below. none k (omega (arith, below))))

-- those that a partition writes to its console,
pub first_said : (count : ℕ) (s : Schedule) (g : Machine) (p : ℕ) → AreNoneLater (suc count) s → upset_said s g (suc count) p ≡ said (ready (s 0) g) (suc count) p
first_said count s g p none =
    ap (λ rest. step_said (ready (s 0) g) p ++ rest) (none_said count (later s) (step (ready (s 0) g)) p (λ k below. none k (omega (arith, below))))

-- and what it receives
pub first_script : (count : ℕ) (s : Schedule) (g : Machine) (p : ℕ) → AreNoneLater (suc count) s → upset_script s g p (suc count) ≡ script (ready (s 0) g) p (suc count)
first_script count s g p none =
    ap (λ rest. script_unless g.halted (cue (ready (s 0) g) p) rest) (none_script count (later s) (step (ready (s 0) g)) p (λ k below. none k (omega (arith, below))))
    ∙ ap (λ b. script_unless b (cue (ready (s 0) g) p) (script (step (ready (s 0) g)) p count)) (sym (ready_halted (s 0) g))

-- where no lines are due no upsets strike
pub none_upsets : (count : ℕ) (t : Timetable) → AreNoneLater count t → AreNoneLater count (upsets_of t)
none_upsets count t none k below = ap (map upset_of) (none k below)

-- what comes later of the upsets of lines are the upsets of those that come later
upsets_from : (j : ℕ) (t : Timetable) → upsets_of (from j t) ≡ from j (upsets_of t)
upsets_from zero t = refl
upsets_from (suc j) t = upsets_from j (later t)

-- two pieces of a run with lines of upsets
pub timed_run_add : (j k : ℕ) (t : Timetable) (g : Machine) → upset_run (upsets_of t) g (j + k) ≡ upset_run (upsets_of (from j t)) (upset_run (upsets_of t) g j) k
timed_run_add j k t g = upset_run_add j k (upsets_of t) g ∙ ap (λ (s : Schedule). upset_run s (upset_run (upsets_of t) g j) k) (sym (upsets_from j t))

pub timed_console_add : (j k : ℕ) (t : Timetable) (g : Machine) (uart : ℕ)
    → upset_console (upsets_of t) g (j + k) uart ≡ upset_console (upsets_of t) g j uart ++ upset_console (upsets_of (from j t)) (upset_run (upsets_of t) g j) k uart
timed_console_add j k t g uart =
    upset_console_add j k (upsets_of t) g uart
    ∙ ap (λ (s : Schedule). upset_console (upsets_of t) g j uart ++ upset_console s (upset_run (upsets_of t) g j) k uart) (sym (upsets_from j t))

pub reported_to_add : (j k : ℕ) (t : Timetable) (g : Machine) → reported_to t g (j + k) ≡ reported t g j ++ reported_to (from j t) (upset_run (upsets_of t) g j) k
reported_to_add j k t g =
    let mid : Machine = upset_run (upsets_of t) g j in
    ap (λ (first : List ReportLine). first ++ struck_lines (upset_run (upsets_of t) g (j + k)).halted (t (j + k))) (reported_add j k t g)
    ∙ ap (λ (m : Machine). reported t g j ++ reported (from j t) mid k ++ struck_lines m.halted (t (j + k))) (timed_run_add j k t g)
    ∙ ap (λ (ls : List UpsetLine). reported t g j ++ reported (from j t) mid k ++ struck_lines (upset_run (upsets_of (from j t)) mid k).halted ls) (sym (from_at j k t))
    ∙ append_assoc (reported t g j) (reported (from j t) mid k) (struck_lines (upset_run (upsets_of (from j t)) mid k).halted (from j t k))
