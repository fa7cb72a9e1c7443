-- The laws on a machine whose partitions rest late.
use Rattle.std.specs.Prelude.{◌≡◌, ℕ, ◌≤◌, false, List, map, Some, slice_get, slice_set}
use Rattle.xm_base.specs.declared.partition.Order.TheVariants as order
use Rattle.machine_model.specs.Lines.{step_lines, step_said}
use Rattle.machine_model.specs.Machine.{Machine, happened, order_upon, step}
use Rattle.machine_model.specs.Partition.{PartitionState, rested}

-- the machine with these partitions
abbrev pub with_parts : List PartitionState → Machine → Machine
with_parts parts g = record g { parts = parts }

-- a partition that is ordered to halt in the machine's next tick has rested at this time
abbrev pub HaltsRested : ℕ → Machine → Type 0
HaltsRested before g =
    (p : ℕ) (ps : PartitionState) → slice_get g.parts p ≡ Some ps → order_upon (happened g).act p ≡ Some order.Halt → rested before ps ≡ ps

-- in their next tick the same happens in two machines, it emits the same, and it leaves the same, unless one is ordered to halt that has not rested
pub record GoAlike (before : ℕ) (a b : Machine) : Type 0 where
  pub happened : happened a ≡ happened b
  pub lines : step_lines a ≡ step_lines b
  pub said : (p : ℕ) → step_said a p ≡ step_said b p
  pub state : HaltsRested before b → step a ≡ step b

-- a machine goes on alike whether all its partitions have rested before or not
abbrev pub RestedGoAlike : Type 0
RestedGoAlike = (g : Machine) (before : ℕ) → before ≤ g.time → g.halted ≡ false → GoAlike before (with_parts (map (rested before) g.parts) g) g

-- and whether all but this one have
abbrev pub OthersGoAlike : Type 0
OthersGoAlike =
    (g : Machine) (before p : ℕ) (ps : PartitionState) → before ≤ g.time → g.halted ≡ false →
    GoAlike before (with_parts (slice_set (map (rested before) g.parts) p ps) g) (with_parts (slice_set g.parts p ps) g)
