-- The laws on ranges: a machine boots with its numbers in their ranges and keeps them there, so that what a partition receives is in range, too.
use Rattle.std.specs.Prelude.{ℕ}
use Rattle.std.specs.List.{AllByRecursion}
use Rattle.xm_conf.specs.Description.{described}
use Rattle.xm_conf.specs.Fits.{Fits}
use Rattle.machine_model.specs.Cue.{cue, script}
use Rattle.machine_model.specs.Facts.{IsComplete}
use Rattle.machine_model.specs.Machine.{Machine, run, start, step}
use Rattle.machine_model.specs.View.{System}
use Rattle.range_model.specs.Cues.{HasNumbers}
use Rattle.range_model.specs.Ranges.{HasRanges, IsMachineInRange}

-- the configuration of a machine meets the rules, the machine has each partition and each channel of it, the images of what runs are in range, and so are the
-- numbers of its state
pub record IsInRange (g : Machine) : Type 0 where
  pub fits : Fits (described g.system.conf)
  pub complete : IsComplete g
  pub images : HasRanges g.system
  pub numbers : IsMachineInRange g

-- a machine boots so
abbrev pub BootsInRange : Type 0
BootsInRange = (system : System) → Fits (described system.conf) → HasRanges system → IsInRange (start system)

-- and stays so in each tick
abbrev pub KeepsRanges : Type 0
KeepsRanges = (g : Machine) → IsInRange g → IsInRange (step g)

-- so it is so after every run
abbrev pub RunsInRange : Type 0
RunsInRange = (system : System) (count : ℕ) → Fits (described system.conf) → HasRanges system → IsInRange (run (start system) count)

-- what a partition receives in a tick is in range
abbrev pub CuesAreInRange : Type 0
CuesAreInRange = (g : Machine) (p : ℕ) → IsInRange g → HasNumbers (cue g p)

-- so is each cue of its script of this many ticks
abbrev pub ScriptsAreInRange : Type 0
ScriptsAreInRange = (g : Machine) (p count : ℕ) → IsInRange g → AllByRecursion HasNumbers (script g p count)

-- and from the boot of a system on
abbrev pub BootedScriptsAreInRange : Type 0
BootedScriptsAreInRange =
    (system : System) (p count : ℕ) → Fits (described system.conf) → HasRanges system → AllByRecursion HasNumbers (script (start system) p count)
