-- What a partition receives is a script of the partition, as a file keeps it: in each tick, and over a run.
use Rattle.std.specs.Prelude.{ℕ, ◌≤◌}
use Rattle.xm_conf.specs.Description.{described}
use Rattle.xm_conf.specs.Fits.{Fits}
use Rattle.machine_model.specs.Cue.{cue, script}
use Rattle.machine_model.specs.Machine.{Machine, start}
use Rattle.machine_model.specs.View.{System}
use Rattle.replay_model.specs.ReceivingLaws.{IsSound}
use Rattle.cue_scripts.specs.Script.{IsCue, IsScript}
pub use Rattle.range_model.specs.Cues.{HasMessageBytes, HasNumbers, HasShownBytes}
use Rattle.range_model.specs.Laws.{IsInRange}
use Rattle.range_model.specs.Ranges.{HasRanges}

-- what a partition receives in a tick of a machine whose numbers are in their ranges, it may receive by a script
abbrev pub ReceivesCues : Type 0
ReceivesCues = (g : Machine) (p : ℕ) → IsSound g → IsInRange g → IsCue g.system.conf p (cue g p)

-- so what it receives in `count` ticks is a script of the partition
abbrev pub ReceivesScripts : Type 0
ReceivesScripts = (g : Machine) (p count : ℕ) → IsSound g → IsInRange g → count ≤ 4000000000 → IsScript g.system.conf p (script g p count)

-- and from the boot of a system on, whose images begin at words and load bytes
abbrev pub ReceivesBootedScripts : Type 0
ReceivesBootedScripts =
    (system : System) (p count : ℕ) → Fits (described system.conf) → HasRanges system → count ≤ 4000000000 → IsScript system.conf p (script (start system) p count)
