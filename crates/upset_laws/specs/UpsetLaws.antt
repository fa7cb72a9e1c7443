-- The laws of upsets: what strikes one partition reaches another by its cues alone.
use Rattle.std.specs.Prelude.{◌≡◌, ℕ, ◌<◌, ◌≤◌, ◌==◌, true, false, List, Some, slice_get}
use Rattle.xm_base.specs.Options.{on}
use Rattle.machine_model.specs.Alone.{alone_step, alone_step_lines, alone_step_said}
use Rattle.machine_model.specs.Cue.{cue, script}
use Rattle.machine_model.specs.Laws.{alone_part_at, core_file_of, part}
use Rattle.machine_model.specs.Lines.{lines, own, said, step_lines, step_said}
use Rattle.machine_model.specs.Machine.{Machine, run, step}
use Rattle.machine_model.specs.Partition.{PartitionState}
use Rattle.machine_model.specs.View.{view_of}
use Rattle.upset_model.specs.Upsets.{Schedule, Upset, alone_struck, alone_upset_from, alone_upset_lines, alone_upset_said, no_upsets, own_strikes, ready, strikes_on, upset, upset_lines, upset_run, upset_said, upset_script}

-- an upset leaves all of the machine but the partition that it strikes
pub record IsContained (u : Upset) (g : Machine) : Type 0 where
  pub others : (q : ℕ) → (u.part == q) ≡ false → alone_part_at (upset u g) q ≡ alone_part_at g q
  pub struck : slice_get (upset u g).parts u.part ≡ on u.strike (slice_get g.parts u.part)
  pub rest : upset u g ≡ record g { parts = (upset u g).parts }

abbrev pub UpsetsAreContained : Type 0
UpsetsAreContained = (u : Upset) (g : Machine) → IsContained u g

-- one tick with upsets is, for each partition, one tick of that partition alone as its own upsets left it
pub record UpsetTicksAlone (us : List Upset) (g : Machine) (p : ℕ) (ps : PartitionState) : Type 0 where
  pub before : alone_part_at (ready us g) p ≡ Some (alone_struck (strikes_on p us) (part g p ps))
  pub state : alone_part_at (step (ready us g)) p ≡ Some (alone_step (view_of g.system p) (alone_struck (strikes_on p us) (part g p ps)) (cue (ready us g) p))
  pub lines : own p (step_lines (ready us g)) ≡ alone_step_lines (view_of g.system p) (alone_struck (strikes_on p us) (part g p ps)) (cue (ready us g) p)
  pub said : step_said (ready us g) p ≡ alone_step_said (view_of g.system p) (alone_struck (strikes_on p us) (part g p ps)) (cue (ready us g) p)

abbrev pub OneUpsetTick : Type 0
OneUpsetTick = (us : List Upset) (g : Machine) (p : ℕ) (ps : PartitionState) → g.halted ≡ false → slice_get g.parts p ≡ Some ps → UpsetTicksAlone us g p ps

-- a machine that has halted is not struck
abbrev pub HaltedIsNotStruck : Type 0
HaltedIsNotStruck = (us : List Upset) (g : Machine) → g.halted ≡ true → ready us g ≡ g

-- a run with upsets is, for each partition, a run of that partition alone under its script and with its own upsets
pub record UpsetRunsAlone (s : Schedule) (g : Machine) (p : ℕ) (ps : PartitionState) (count : ℕ) : Type 0 where
  pub state : alone_part_at (upset_run s g count) p ≡ Some (alone_upset_from (view_of g.system p) (own_strikes p s) (part g p ps) (upset_script s g p count))
  pub lines : own p (upset_lines s g count) ≡ alone_upset_lines (view_of g.system p) (own_strikes p s) (part g p ps) (upset_script s g p count)
  pub said : upset_said s g count p ≡ alone_upset_said (view_of g.system p) (own_strikes p s) (part g p ps) (upset_script s g p count)

abbrev pub AllUpsetTicks : Type 0
AllUpsetTicks = (count : ℕ) (s : Schedule) (g : Machine) (p : ℕ) (ps : PartitionState) → slice_get g.parts p ≡ Some ps → UpsetRunsAlone s g p ps count

-- two machines and their upsets, in which a partition is the same, has the same things of its own, is struck by the same and receives the same
pub record AreAlikeUpset (s : Schedule) (one : Machine) (t : Schedule) (other : Machine) (p count : ℕ) : Type 0 where
  pub state : PartitionState
  pub there : slice_get one.parts p ≡ Some state
  pub part : alone_part_at one p ≡ alone_part_at other p
  pub view : view_of one.system p ≡ view_of other.system p
  pub strikes : (k : ℕ) → k < count → own_strikes p s k ≡ own_strikes p t k
  pub script : upset_script s one p count ≡ upset_script t other p count

-- it has the same state, the same lines, the same console bytes and the same core file in both
pub record AreEqualUpset (s : Schedule) (one : Machine) (t : Schedule) (other : Machine) (p count : ℕ) : Type 0 where
  pub state : alone_part_at (upset_run s one count) p ≡ alone_part_at (upset_run t other count) p
  pub lines : own p (upset_lines s one count) ≡ own p (upset_lines t other count)
  pub said : upset_said s one count p ≡ upset_said t other count p
  pub core_file : core_file_of (upset_run s one count) p ≡ core_file_of (upset_run t other count) p

-- after each of the ticks, whatever strikes the others
abbrev pub TwoUpsetRuns : Type 0
TwoUpsetRuns = (s : Schedule) (one : Machine) (t : Schedule) (other : Machine) (p count fewer : ℕ) → fewer ≤ count →
    AreAlikeUpset s one t other p count → AreEqualUpset s one t other p fewer

-- a run without upsets
pub record IsPlainRun (g : Machine) (count : ℕ) : Type 0 where
  pub state : upset_run no_upsets g count ≡ run g count
  pub lines : upset_lines no_upsets g count ≡ lines g count
  pub said : (p : ℕ) → upset_said no_upsets g count p ≡ said g count p
  pub script : (p : ℕ) → upset_script no_upsets g p count ≡ script g p count

abbrev pub RunsPlain : Type 0
RunsPlain = (g : Machine) (count : ℕ) → IsPlainRun g count
