-- The laws on one tick of a machine in passes, and on partitions that rest while one works.
use Rattle.std.specs.Prelude.{◌≡◌, ℕ, suc, ◌+◌, ◌<◌, ◌≤◌, Bool, false, List, length, IfSome, Option, None, Some}
use Rattle.machine_model.specs.Health.{Worked}
use Rattle.machine_model.specs.Lines.{lines, step_lines}
use Rattle.machine_model.specs.LocalTick.{bounded}
use Rattle.machine_model.specs.Machine.{Machine, run, step}
use Rattle.machine_model.specs.Partition.{PartitionState}
use Rattle.machine_model.specs.Emission.{reach_of}
use Rattle.machine_model.specs.View.{view_of}
use Rattle.span_model.specs.NextLaws.{IsNextTick, IsTickOf}
use Rattle.span_model.specs.Passes.{rest_but, with_part, worked_lines, worked_through}
use Rattle.span_model.specs.SpanLaws.{all_rested, others_rested}
use Rattle.span_model.specs.Spans.{inside}

-- a tick in which the partition of the slot did this work is its passes, one after the other
pub record IsInPasses (g : Machine) (p : ℕ) (work : Worked) : Type 0 where
  pub state : step g ≡ worked_through p work g
  pub lines : step_lines g ≡ worked_lines p work g

-- this holds of a machine that has not halted, where the act keeps within its bounds and orders only a partition that there is
abbrev pub TickInPasses : Type 0
TickInPasses =
    (g : Machine) (p : ℕ) (first : Bool) (work : Worked) → g.halted ≡ false → p < length g.parts → IsTickOf g p first work →
    bounded (view_of g.system p) work.act ≡ work.act → IfSome (reach_of work.act).directed (λ directed. directed.id < length g.parts) →
    IsInPasses g p work

-- this many ticks leave these partitions, and the next one, in which the partition of the slot did this work, is its passes
pub record IsPassedNext (g : Machine) (done : ℕ) (parts : List PartitionState) (p : ℕ) (work : Worked) : Type 0 where
  pub before : run g done ≡ inside done parts g
  pub state : run g (suc done) ≡ worked_through p work (run g done)
  pub lines : lines g (suc done) ≡ worked_lines p work (run g done)

-- the tick after a span in passes
abbrev pub PassedNext : Type 0
PassedNext =
    (g : Machine) (done : ℕ) (parts : List PartitionState) (p : ℕ) (first : Bool) (work : Worked) → IsNextTick g done parts p first work →
    (run g done).halted ≡ false → p < length (run g done).parts → bounded (view_of (run g done).system p) work.act ≡ work.act →
    IfSome (reach_of work.act).directed (λ directed. directed.id < length (run g done).parts) → IsPassedNext g done parts p work

-- all partitions rest in one pass
abbrev pub AllRest : Type 0
AllRest = (g : Machine) (last : ℕ) → all_rested last g ≡ (rest_but None (g.time + last) g).parts

-- so do all but one, which has a new state
abbrev pub OthersRest : Type 0
OthersRest =
    (g : Machine) (last p : ℕ) (new : PartitionState) → others_rested last p new g ≡ (rest_but (Some p) (g.time + last) (with_part p new g)).parts

-- resting in one pass and later in another one is resting in the later one
abbrev pub OthersRestLater : Type 0
OthersRestLater = (x : Option ℕ) (t1 t2 : ℕ) (g : Machine) → t1 ≤ t2 → rest_but x t2 (rest_but x t1 g) ≡ rest_but x t2 g
