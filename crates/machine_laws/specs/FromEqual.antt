-- Two runs from any two machines in which a partition is the same.
use Rattle.std.specs.Prelude.{◌≡◌, ℕ, ◌≤◌, Some, slice_get}
use Rattle.machine_model.specs.Cue.{script}
use Rattle.machine_model.specs.Laws.{alone_part_at, core_file_of}
use Rattle.machine_model.specs.Lines.{lines, own, said}
use Rattle.machine_model.specs.Machine.{Machine, run}
use Rattle.machine_model.specs.Partition.{PartitionState}
use Rattle.machine_model.specs.View.{view_of}

-- two machines in which a partition is the same, with its copies of channels, the ticks done and the hardware clock; in which it has the same things of its
-- own; and from which it receives the same in this many ticks
pub record AreAlikeFrom (one other : Machine) (p count : ℕ) : Type 0 where
  pub state : PartitionState
  pub there : slice_get one.parts p ≡ Some state
  pub part : alone_part_at one p ≡ alone_part_at other p
  pub view : view_of one.system p ≡ view_of other.system p
  pub script : script one p count ≡ script other p count

-- after this many ticks it is the same in both, and it has printed the same lines, written the same console bytes and has the same core file
pub record AreEqualFrom (one other : Machine) (p count : ℕ) : Type 0 where
  pub state : alone_part_at (run one count) p ≡ alone_part_at (run other count) p
  pub lines : own p (lines one count) ≡ own p (lines other count)
  pub said : said one count p ≡ said other count p
  pub core_file : core_file_of (run one count) p ≡ core_file_of (run other count) p

-- after each of the ticks, whatever the others are and do
abbrev pub TwoRunsFrom : Type 0
TwoRunsFrom = (one other : Machine) (p count fewer : ℕ) → fewer ≤ count → AreAlikeFrom one other p count → AreEqualFrom one other p fewer
