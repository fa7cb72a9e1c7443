-- What a partition receives can be taken where it is replayed in isolation: in each tick, and over a run.
use Rattle.std.specs.Prelude.{◌≡◌, ℕ, ◌<◌, true, length, None}
use Rattle.xm_conf.specs.Description.{described}
use Rattle.xm_conf.specs.Fits.{Fits}
use Rattle.machine_model.specs.Alone.{alone_start}
use Rattle.machine_model.specs.Cue.{cue, script}
use Rattle.machine_model.specs.Facts.{HasFacts, HasShapes, IsComplete}
use Rattle.machine_model.specs.Machine.{Machine, start}
use Rattle.machine_model.specs.View.{System, view_of}
use Rattle.replay_model.specs.Passes.{part_in}
use Rattle.replay_model.specs.Taking.{first_untaken, takes_cue}

-- the configuration of a machine meets the rules, and what holds of each machine after a run from its boot on holds of it: it has each partition and each
-- channel of its configuration, the facts hold of its partitions, and its channels hold what their shapes allow
pub record IsSound (g : Machine) : Type 0 where
  pub fits : Fits (described g.system.conf)
  pub complete : IsComplete g
  pub facts : HasFacts g
  pub shapes : HasShapes g

-- what a partition receives in a tick of such a machine, it can take in its part of the machine
abbrev pub ReceivedIsTaken : Type 0
ReceivedIsTaken =
    (g : Machine) (p : ℕ) → IsSound g → p < length g.parts → takes_cue (view_of g.system p) (part_in g p) (cue g p) ≡ true

-- and over this many ticks each cue, in the state which the cues before it leave
abbrev pub ScriptIsTaken : Type 0
ScriptIsTaken =
    (g : Machine) (p count : ℕ) → IsSound g → p < length g.parts → first_untaken (view_of g.system p) (part_in g p) 0 (script g p count) ≡ None

-- so a script from the boot of a system on is taken by the partition as it boots alone
abbrev pub BootedScriptIsTaken : Type 0
BootedScriptIsTaken =
    (system : System) (p count : ℕ) → Fits (described system.conf) → p < length system.conf.parts →
    first_untaken (view_of system p) (alone_start (view_of system p)) 0 (script (start system) p count) ≡ None
