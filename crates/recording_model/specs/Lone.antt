-- A partition by itself, as it boots, and what it says to UARTs.
use Rattle.std.specs.Prelude.{ℕ, Bool, false, List, [], if◌then◌else◌}
use Rattle.machine_model.specs.Alone.{Alone, alone_start}
use Rattle.machine_model.specs.Cue.{Cue}
use Rattle.machine_model.specs.Lists.{is_number}
use Rattle.machine_model.specs.View.{PartitionView, System, part_of, view_of}
use Rattle.recording_model.specs.Replayed.{strikes_in}
use Rattle.upset_model.specs.Upsets.{alone_upset_said}
use Rattle.upset_model.specs.declared.upset_line.UpsetLine.{UpsetLine}

-- a partition by itself: what runs, its number, its own part of the machine's state, and whether the hypervisor has halted. Nothing is said
-- of the other partitions
pub record Lone : Type 0 where
  pub system : System
  pub p : ℕ
  pub part : Alone
  pub halted : Bool

-- what the partition has of its own
abbrev pub own_view : Lone → PartitionView
own_view lone = view_of lone.system lone.p

-- a partition as it boots
abbrev pub booted_alone : System → ℕ → Lone
booted_alone system p = record { system = system; p = p; part = alone_start (view_of system p); halted = false }

-- the console bytes of a replay with the upsets of a file that each UART gets
abbrev pub replay_said : List UpsetLine → Lone → List Cue → ℕ → List ℕ
replay_said upsets lone cues uart =
    if is_number (part_of lone.system.conf lone.p).console uart
    then alone_upset_said (own_view lone) (strikes_in upsets (own_view lone)) (alone_start (own_view lone)) cues
    else []
