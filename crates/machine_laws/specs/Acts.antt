-- What a partition does in a tick of the machine, as what it does alone.
use Rattle.std.specs.Prelude.{◌≡◌, ℕ, Some, slice_get}
use Rattle.machine_model.specs.Alone.{alone_local}
use Rattle.machine_model.specs.Cue.{cue}
use Rattle.machine_model.specs.Laws.{part}
use Rattle.machine_model.specs.Machine.{Machine, happened, tick_of}
use Rattle.machine_model.specs.Partition.{PartitionState}
use Rattle.machine_model.specs.View.{view_of}

-- a partition's part of a tick, its act with it, is what it does alone under its cue
abbrev pub ActsAlone : Type 0
ActsAlone = (g : Machine) (p : ℕ) (ps : PartitionState) → slice_get g.parts p ≡ Some ps → alone_local (view_of g.system p) (part g p ps) (cue g p) ≡ tick_of (happened g) p
