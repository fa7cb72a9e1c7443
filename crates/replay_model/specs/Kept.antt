-- What the passes of a tick in isolation keep of the machine, whatever they leave of the others.
use Rattle.std.specs.Prelude.{◌≡◌, ℕ, ◌<◌, false, length}
use Rattle.xm_conf.specs.Description.{described}
use Rattle.xm_conf.specs.Fits.{Fits}
use Rattle.machine_model.specs.Cue.{Cue}
use Rattle.machine_model.specs.Facts.{AreFacts, HasFacts, IsClocked, IsTimed}
use Rattle.machine_model.specs.Health.{Worked}
use Rattle.machine_model.specs.Machine.{Machine, is_halt}
use Rattle.machine_model.specs.View.{view_of}
use Rattle.machine_model.specs.Whole.{NoEvent, WholeEvent, event_of, ticks_after}
use Rattle.span_model.specs.Passes.{part_at}
use Rattle.replay_model.specs.Passes.{away_passed, rested_in, tick_past, work_passed}

-- what runs is the same, and there are as many partitions and channels; one more tick has begun, which is counted unless this event halts
-- the hypervisor, and that has halted where it does; the clocks stand as they may, and the facts hold of all partitions where they hold of
-- partition p
pub record IsKeptBy (p : ℕ) (event : WholeEvent) (old new : Machine) : Type 0 where
  pub system : new.system ≡ old.system
  pub parts : length new.parts ≡ length old.parts
  pub channels : length new.channels ≡ length old.channels
  pub ticks : new.ticks ≡ ticks_after event old.ticks
  pub halted : new.halted ≡ is_halt event
  pub clocked : Fits (described old.system.conf) → IsClocked old → IsClocked new
  pub timed : IsTimed old → IsTimed new
  pub facts : HasFacts old → AreFacts (view_of old.system p) new.ticks new.halted (part_at p new) → HasFacts new

-- a tick of each kind keeps so much of a machine that has not halted
pub record PassesKeep : Type 0 where
  pub away : (g : Machine) (p : ℕ) (cue : Cue) → g.halted ≡ false → p < length g.parts → IsKeptBy p cue.whole g (away_passed p cue g)
  pub resting : (g : Machine) (p : ℕ) → g.halted ≡ false → p < length g.parts → IsKeptBy p NoEvent g (tick_past NoEvent (rested_in p g))
  pub working : (g : Machine) (p : ℕ) (work : Worked) → g.halted ≡ false → p < length g.parts → IsKeptBy p (event_of work.act) g (work_passed p work g)
