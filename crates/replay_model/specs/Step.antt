-- One tick of one partition in isolation that was done whole.
use Rattle.std.specs.Prelude.{◌≡◌, ℕ, true, length}
use Rattle.machine_model.specs.Alone.{alone_step}
use Rattle.machine_model.specs.Cue.{Cue}
use Rattle.machine_model.specs.Machine.{Machine, is_halt}
use Rattle.machine_model.specs.View.{view_of}
use Rattle.replay_model.specs.Passes.{part_in}
use Rattle.replay_model.specs.Taking.{takes_cue}

-- the partition could take its cue, its part is that of the tick alone, and the hypervisor has halted where the cue says so
pub record IsLone (p : ℕ) (cue : Cue) (old new : Machine) : Type 0 where
  pub taken : takes_cue (view_of old.system p) (part_in old p) cue ≡ true
  pub part : part_in new p ≡ alone_step (view_of old.system p) (part_in old p) cue
  pub halted : new.halted ≡ is_halt cue.whole

-- what runs, and how many partitions there are, is the same
pub record IsOfSystem (old new : Machine) : Type 0 where
  pub system : new.system ≡ old.system
  pub parts : length new.parts ≡ length old.parts
