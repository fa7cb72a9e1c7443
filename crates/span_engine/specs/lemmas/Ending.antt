-- The end of a tick in which a partition worked: what it needs, and what it leaves.
use Rattle.std.specs.Prelude.{◌≡◌, ℕ, ◌+◌, ◌<◌, ◌≤◌, ◌^◌, List, ◌++◌, length}
use Rattle.xm_report.specs.Report.{ReportLine}
use Rattle.system_state.specs.State.{SysState, with_machine}
use Rattle.tick_steps.specs.Work.{ReachIsUponOne, act_beyond}
use Rattle.tick_steps.specs.lemmas.WorkTerms.{ended_by, ending_lines}
use Rattle.tick_steps.specs.declared.beyond.Beyond.{Beyond}

-- what the end of a tick needs whose partition reached so beyond itself: the clocks can go on, and there is room for lines
pub record CanEndTick (reach : Beyond) (sys : SysState) (had : List ReportLine) : Type 0 where
  pub time : sys.machine.time + 1 < 2 ^ 64
  pub ticks : sys.machine.ticks + 1 < 2 ^ 64
  pub one : ReachIsUponOne reach sys.machine
  pub room : length had ≤ 4

-- the tick of partition p was ended, with its lines
pub record IsTickEnded (reach : Beyond) (p : ℕ) (old new : SysState) (had got : List ReportLine) : Type 0 where
  pub state : new ≡ with_machine (ended_by (act_beyond reach) p old.machine) old
  pub lines : got ≡ had ++ ending_lines (act_beyond reach) old.machine
  pub few : length got ≤ 40
