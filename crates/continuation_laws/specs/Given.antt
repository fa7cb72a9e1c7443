-- The machine as if its partitions had been given other input words: it goes on alike, since only the boot reads them.
use Rattle.std.specs.Prelude.{◌≡◌, ℕ, List, map}
use Rattle.machine_model.specs.Cue.{cue}
use Rattle.machine_model.specs.Laws.{core_file_of}
use Rattle.machine_model.specs.Lines.{end_lines, step_console, step_lines, step_said}
use Rattle.machine_model.specs.Machine.{Machine, step}
use Rattle.upset_model.specs.Places.{Timetable}
use Rattle.upset_model.specs.Reports.{reported, reported_to, upset_console}
use Rattle.upset_model.specs.Upsets.{Schedule, upset_lines, upset_run, upset_said, upset_script}

-- the machine as if its partitions had been given these input words at the boot; what each of them has left stays
abbrev pub with_given : List (List ℕ) → Machine → Machine
with_given inputs g = record g { system = record g.system { inputs = inputs } }

-- the input words that are left, of each partition
abbrev pub words_left : Machine → List (List ℕ)
words_left g = map (λ ps. ps.inputs) g.parts

-- the machine with the words that are left as those that its partitions were given
abbrev pub with_left : Machine → Machine
with_left g = with_given (words_left g) g

-- a tick of the machine is the same whatever its partitions were given: what it leaves, its lines, the bytes that each partition writes to its console and
-- each UART gets, and what each partition receives
pub record TicksAlike (inputs : List (List ℕ)) (g : Machine) : Type 0 where
  pub state : step (with_given inputs g) ≡ with_given inputs (step g)
  pub lines : step_lines (with_given inputs g) ≡ step_lines g
  pub said : (p : ℕ) → step_said (with_given inputs g) p ≡ step_said g p
  pub console : (uart : ℕ) → step_console (with_given inputs g) uart ≡ step_console g uart
  pub received : (p : ℕ) → cue (with_given inputs g) p ≡ cue g p

abbrev pub TickIgnoresGiven : Type 0
TickIgnoresGiven = (inputs : List (List ℕ)) (g : Machine) → TicksAlike inputs g

-- so are the lines at the end of a run, the core file of each partition, and the words that are left
pub record RestsAlike (inputs : List (List ℕ)) (g : Machine) : Type 0 where
  pub end : end_lines (with_given inputs g) ≡ end_lines g
  pub core_file : (p : ℕ) → core_file_of (with_given inputs g) p ≡ core_file_of g p
  pub left : words_left (with_given inputs g) ≡ words_left g

abbrev pub RestIgnoresGiven : Type 0
RestIgnoresGiven = (inputs : List (List ℕ)) (g : Machine) → RestsAlike inputs g

-- so are this many ticks, with the same upsets before each of them
pub record RunsAlike (inputs : List (List ℕ)) (s : Schedule) (g : Machine) (count : ℕ) : Type 0 where
  pub state : upset_run s (with_given inputs g) count ≡ with_given inputs (upset_run s g count)
  pub lines : upset_lines s (with_given inputs g) count ≡ upset_lines s g count
  pub said : (p : ℕ) → upset_said s (with_given inputs g) count p ≡ upset_said s g count p
  pub console : (uart : ℕ) → upset_console s (with_given inputs g) count uart ≡ upset_console s g count uart
  pub script : (p : ℕ) → upset_script s (with_given inputs g) p count ≡ upset_script s g p count

abbrev pub RunsIgnoreGiven : Type 0
RunsIgnoreGiven = (inputs : List (List ℕ)) (s : Schedule) (g : Machine) (count : ℕ) → RunsAlike inputs s g count

-- and so is what they report, by lines of upsets before each of them
pub record ReportsAlike (inputs : List (List ℕ)) (t : Timetable) (g : Machine) (count : ℕ) : Type 0 where
  pub lines : reported t (with_given inputs g) count ≡ reported t g count
  pub to_next : reported_to t (with_given inputs g) count ≡ reported_to t g count

abbrev pub ReportIgnoresGiven : Type 0
ReportIgnoresGiven = (inputs : List (List ℕ)) (t : Timetable) (g : Machine) (count : ℕ) → ReportsAlike inputs t g count
