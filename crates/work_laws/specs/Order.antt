-- What the order of the lines of a report depends on.
use Rattle.std.specs.Prelude.{◌≡◌, ℕ, ◌<◌, List, length, Option}
use Rattle.xm_base.specs.Options.{on}
use Rattle.xm_report.specs.Report.{ReportLine}
use Rattle.machine_model.specs.Lines.{lines, own, plan_lines, step_lines}
use Rattle.machine_model.specs.Machine.{Machine, happened, next_clock, run, turn_of}
use Rattle.machine_model.specs.Whole.{whole_lines}

-- whose slot the next tick is in
abbrev pub slot_owner : Machine → Option ℕ
slot_owner g = on (λ turn. turn.part) (turn_of g)

-- the lines of the next tick that are of no partition: the hypervisor's, and that of a new plan
abbrev pub hypervisor_lines : Machine → List ReportLine
hypervisor_lines g = whole_lines g.ticks (happened g).event

abbrev pub new_plan_lines : Machine → List ReportLine
new_plan_lines g = plan_lines g.ticks g.clock.plan (next_clock g (happened g)).plan

-- two machines of as many partitions whose next tick is in the slot of the same partition, or in no slot, and in which each partition prints the same lines
-- in it, the hypervisor the same, and a new plan the same; and both have halted or neither
pub record PrintTheSame (one other : Machine) : Type 0 where
  pub halted : one.halted ≡ other.halted
  pub parts : length one.parts ≡ length other.parts
  pub slot : slot_owner one ≡ slot_owner other
  pub each : (p : ℕ) → own p (step_lines one) ≡ own p (step_lines other)
  pub hypervisor : hypervisor_lines one ≡ hypervisor_lines other
  pub plan : new_plan_lines one ≡ new_plan_lines other

-- all lines of the tick are the same, in the same order: nothing else of the machine shows in it
abbrev pub OrderShowsNothing : Type 0
OrderShowsNothing = (one other : Machine) → PrintTheSame one other → step_lines one ≡ step_lines other

-- so are those of this many ticks
abbrev pub ReportShowsNothing : Type 0
ReportShowsNothing = (one other : Machine) (count : ℕ) → ((k : ℕ) → k < count → PrintTheSame (run one k) (run other k)) → lines one count ≡ lines other count
