-- A partition's clocks: the ticks that it ran, and a timer on each of its two clocks.
use Rattle.std.specs.Prelude.{◌≡◌, ℕ, ◌+◌, ◌-◌, ◌*◌, ◌/◌, ◌^◌, ◌<◌, ◌==◌, ◌⊎◌, Bool, true, false, nat_lt, nat_le, if◌then◌else◌, IsTrue, Option, Some, None, min}
use Rattle.std.specs.Option.{ForSome}
use Rattle.virt_clocks.specs.declared.timer.Clock.{Clock}
use Rattle.virt_clocks.specs.declared.timer.Clock.TheVariants.{Hw, Exec}
use Rattle.virt_clocks.specs.declared.timer.Timer.{Timer}

-- a partition's clocks: the ticks that it ran, and its timers on the hardware clock and on its execution clock
pub record PartitionClocks : Type 0 where
  pub execution : ℕ
  pub hardware_timer : Option Timer
  pub execution_timer : Option Timer

-- a timer that can be set: its deadline is not 0, and a signed number of 64 bits holds each of its numbers
pub record IsTimer (timer : Timer) : Type 0 where
  pub some : 0 < timer.deadline
  pub deadline : timer.deadline < 2 ^ 63
  pub interval : timer.interval < 2 ^ 63

-- each timer that is armed is one that can be set
pub record AreTimers (clocks : PartitionClocks) : Type 0 where
  pub hardware : ForSome clocks.hardware_timer IsTimer
  pub execution : ForSome clocks.execution_timer IsTimer

-- the clocks of a partition that begins: it has not run, and no timer is armed
unfoldable pub no_clocks : PartitionClocks
no_clocks = record { execution = 0; hardware_timer = None; execution_timer = None }

-- the timer on a clock
abbrev pub timer_of : Clock → PartitionClocks → Option Timer
timer_of Hw clocks = clocks.hardware_timer
timer_of Exec clocks = clocks.execution_timer

-- the clocks with another timer on one of them
abbrev pub with_timer : Clock → Option Timer → PartitionClocks → PartitionClocks
with_timer Hw timer clocks = record clocks { hardware_timer = timer }
with_timer Exec timer clocks = record clocks { execution_timer = timer }

-- the timer of a deadline and an interval, or none where the deadline is 0
abbrev pub armed : ℕ → ℕ → Option Timer
armed deadline interval = if deadline == 0 then None else Some (record { deadline = deadline; interval = interval })

-- a timer is due where it is armed, and the clock is at its deadline or past it
abbrev pub is_due : ℕ → Option Timer → Bool
is_due clock None = false
is_due clock (Some timer) = nat_le timer.deadline clock

-- the deadline of a timer that is due and has an interval, moved on by whole intervals until it is past the clock
abbrev pub next_deadline : ℕ → Timer → ℕ
next_deadline clock timer = timer.deadline + ((clock - timer.deadline) / timer.interval + 1) * timer.interval

-- the timer of a later deadline, or none where that is too great for a timer
abbrev pub moved_to : ℕ → Timer → Option Timer
moved_to deadline timer = if nat_lt deadline (2 ^ 63) then Some (record timer { deadline = deadline }) else None

-- what becomes of a timer that is due: it waits for its next deadline, or is disarmed where it has no interval
abbrev pub rearmed : ℕ → Timer → Option Timer
rearmed clock timer = if timer.interval == 0 then None else moved_to (next_deadline clock timer) timer

-- what a timer is after it was looked at: the same, unless it is due
unfoldable pub looked_at : ℕ → Option Timer → Option Timer
looked_at clock None = None
looked_at clock (Some timer) = if nat_le timer.deadline clock then rearmed clock timer else Some timer

-- a timer whose clock goes on, or none
abbrev pub if_counting : Bool → Option Timer → Option Timer
if_counting true timer = timer
if_counting false timer = None

-- how many ticks are left until a timer is due, 0 where it is due at once
abbrev pub ticks_until : ℕ → Option Timer → Option ℕ
ticks_until clock None = None
ticks_until clock (Some timer) = Some (timer.deadline - clock)

-- the lesser of two numbers, of which each may be missing
abbrev pub lesser : Option ℕ → Option ℕ → Option ℕ
lesser None other = other
lesser (Some one) None = Some one
lesser (Some one) (Some other) = Some (min one other)

-- how many ticks are left until a timer is due if nothing changes. The execution timer is counted only where the partition runs
unfoldable pub next_due : ℕ → Bool → PartitionClocks → Option ℕ
next_due now running clocks =
    lesser (ticks_until now clocks.hardware_timer) (ticks_until clocks.execution (if_counting running clocks.execution_timer))

-- no timer is armed and counted
pub record NoneCounted (running : Bool) (clocks : PartitionClocks) : Type 0 where
  pub hardware : clocks.hardware_timer ≡ None
  pub execution : if_counting running clocks.execution_timer ≡ None

-- a timer is due when this many ticks have passed
abbrev pub IsDueAfter : ℕ → Bool → PartitionClocks → ℕ → Type 0
IsDueAfter now running clocks ticks =
    IsTrue (is_due (now + ticks) clocks.hardware_timer)
    ⊎ IsTrue (is_due (clocks.execution + ticks) (if_counting running clocks.execution_timer))

-- a timer is due when this many ticks have passed, and none is due earlier
pub record IsFirstDue (now : ℕ) (running : Bool) (clocks : PartitionClocks) (ticks : ℕ) : Type 0 where
  pub due : IsDueAfter now running clocks ticks
  pub earlier : (fewer : ℕ) → fewer < ticks → ¬ (IsDueAfter now running clocks fewer)
