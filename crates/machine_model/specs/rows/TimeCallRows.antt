-- Rows on the calls on clocks, timers and plans, numbers 12 to 15: the result and the effect of each, and each of its tests at its edge.
use Rattle.std.specs.Prelude.{ℕ, ◌+◌, ◌-◌, ◌^◌, true, false, List, [], ◌∷◌, Some}
use Rattle.guest_bus.specs.Memory.{Memory}
use Rattle.virt_clocks.specs.Clocks.{no_clocks}
use Rattle.virt_clocks.specs.declared.timer.Timer.{Timer}
use Rattle.machine_model.specs.Partition.{PartitionState}
use Rattle.machine_model.specs.rows.PartitionCallRows.{worn}
use Rattle.machine_model.specs.rows.ServedRows.{AnswersWith, ComesTo, Leads, WritesAnswer, call, made_by, minus, served_so, shown_call, view_for, with_call, written}
use Rattle.machine_model.specs.Emission.{Asked, Plans, Words}

-- call 12: the hardware clock or the execution clock, in eight bytes that have to be writable
abbrev pub ShowsClock : Type 0
ShowsClock = (memory : Memory) →
    WritesAnswer (record (call false (12 ∷ 0 ∷ 0x1038 ∷ []) memory) { time = 0x0102_0304_0506_0708 }) 0 0x1038 (1 ∷ 2 ∷ 3 ∷ 4 ∷ 5 ∷ 6 ∷ 7 ∷ 8 ∷ [])
    × WritesAnswer (made_by (view_for false) (worn (12 ∷ 1 ∷ 0x1038 ∷ []) memory)) 0 0x1038 (0 ∷ 0 ∷ 0 ∷ 0 ∷ 0 ∷ 0 ∷ 1 ∷ 2 ∷ [])
    × AnswersWith (call false (12 ∷ 2 ∷ 0x1038 ∷ []) memory) (minus 3)
    × AnswersWith (call false (12 ∷ 0 ∷ 0x1039 ∷ []) memory) (minus 3)
    × AnswersWith (call false (12 ∷ 1 ∷ 0x2000 ∷ []) memory) (minus 3)

-- a timer of a deadline and an interval
abbrev pub timer : ℕ → ℕ → Timer
timer deadline interval = record { deadline = deadline; interval = interval }

-- a partition with a timer on each clock, which calls
abbrev pub with_timers : List ℕ → Memory → PartitionState
with_timers outs memory = record (with_call outs memory) {
  clocks = record no_clocks { hardware_timer = Some (timer 100 1); execution_timer = Some (timer 200 2) };
}

-- call 13 leaves the timer of the hardware clock so, or that of the execution clock
abbrev pub SetsHardware : List ℕ → Timer → Memory → Type 0
SetsHardware outs a_timer memory = Leads (call false outs memory) 0 (record (with_call outs memory) { clocks = record no_clocks { hardware_timer = Some a_timer } })

abbrev pub SetsExecution : List ℕ → Timer → Memory → Type 0
SetsExecution outs a_timer memory = Leads (call false outs memory) 0 (record (with_call outs memory) { clocks = record no_clocks { execution_timer = Some a_timer } })

-- call 13 sets the timer of one clock; a deadline of 0 disarms it, and neither the deadline nor the interval may be below 0
abbrev pub CallSetsTimer : Type 0
CallSetsTimer = (memory : Memory) →
    SetsHardware (13 ∷ 0 ∷ 0x7fff_ffff ∷ 0xffff_ffff ∷ 1 ∷ 2 ∷ []) (timer (2 ^ 63 - 1) (2 ^ 32 + 2)) memory
    × SetsExecution (13 ∷ 1 ∷ 0 ∷ 5 ∷ 0x7fff_ffff ∷ 0xffff_ffff ∷ []) (timer 5 (2 ^ 63 - 1)) memory
    × Leads (made_by (view_for false) (with_timers (13 ∷ 0 ∷ 0 ∷ 0 ∷ 0 ∷ 7 ∷ []) memory)) 0
    (record (with_call (13 ∷ 0 ∷ 0 ∷ 0 ∷ 0 ∷ 7 ∷ []) memory) { clocks = record no_clocks { execution_timer = Some (timer 200 2) } })
    × Leads (made_by (view_for false) (with_timers (13 ∷ 1 ∷ 0 ∷ 0 ∷ 0 ∷ 0 ∷ []) memory)) 0
    (record (with_call (13 ∷ 1 ∷ 0 ∷ 0 ∷ 0 ∷ 0 ∷ []) memory) { clocks = record no_clocks { hardware_timer = Some (timer 100 1) } })
    × AnswersWith (call false (13 ∷ 2 ∷ 0 ∷ 5 ∷ 0 ∷ 0 ∷ []) memory) (minus 3)
    × AnswersWith (call false (13 ∷ 0 ∷ 0x8000_0000 ∷ 0 ∷ 0 ∷ 0 ∷ []) memory) (minus 3)
    × AnswersWith (call false (13 ∷ 1 ∷ 0 ∷ 5 ∷ 0x8000_0000 ∷ 0 ∷ []) memory) (minus 3)
    × AnswersWith (call false (13 ∷ 0 ∷ 0 ∷ 0 ∷ 0x8000_0000 ∷ 0 ∷ []) memory) (minus 3)

-- call 14: a system partition asks for a plan other than plan 0 and is shown the one that runs, in four bytes that have to be writable
abbrev pub AsksForPlan : Type 0
AsksForPlan = (memory : Memory) →
    ComesTo (shown_call (Words (0 ∷ 0 ∷ 0 ∷ 1 ∷ [])) (14 ∷ 2 ∷ 0x103c ∷ []) memory)
    (served_so 0 (Plans (Asked 2)) (written 0x103c (0 ∷ 0 ∷ 0 ∷ 1 ∷ []) (with_call (14 ∷ 2 ∷ 0x103c ∷ []) memory)))
    × AnswersWith (call true (14 ∷ 0 ∷ 0x103c ∷ []) memory) (minus 3)
    × AnswersWith (call true (14 ∷ 3 ∷ 0x103c ∷ []) memory) (minus 3)
    × AnswersWith (call true (14 ∷ 1 ∷ 0x103d ∷ []) memory) (minus 3)
    × AnswersWith (call true (14 ∷ 1 ∷ 0x2000 ∷ []) memory) (minus 3)
    × AnswersWith (call false (14 ∷ 0 ∷ 0x103c ∷ []) memory) (minus 4)

-- call 15: what a system partition is shown of the plan; 20 bytes have to be writable
abbrev pub SeesPlanStatus : Type 0
SeesPlanStatus = (memory : Memory) →
    WritesAnswer (shown_call (Words (5 ∷ 6 ∷ [])) (15 ∷ 0x102c ∷ []) memory) 0 0x102c (5 ∷ 6 ∷ [])
    × AnswersWith (call true (15 ∷ 0x102d ∷ []) memory) (minus 3)
    × AnswersWith (call true (15 ∷ 0x2000 ∷ []) memory) (minus 3)
    × AnswersWith (call false (15 ∷ 0x102d ∷ []) memory) (minus 4)

-- the rows of calls 12 to 15
pub record TimeCallRows : Type 0 where
  pub get_time : ShowsClock
  pub set_timer : CallSetsTimer
  pub switch_sched_plan : AsksForPlan
  pub get_plan_status : SeesPlanStatus
