-- The laws of a timer: its next deadline, and what a later look leaves.
use Rattle.std.specs.Prelude.{◌≡◌, ℕ, ◌+◌, ◌*◌, ◌<◌, ◌≤◌, ◌||◌, Option}
use Rattle.virt_clocks.specs.Clocks.{is_due, looked_at, next_deadline}
use Rattle.virt_clocks.specs.declared.timer.Timer.{Timer}

-- a deadline is past the clock and whole intervals after the timer's own, and no other such deadline is less
pub record IsNextDeadline (clock : ℕ) (timer : Timer) (deadline : ℕ) : Type 0 where
  pub past : clock < deadline
  pub whole : (count : ℕ) × (deadline ≡ timer.deadline + count * timer.interval)
  pub least : (count : ℕ) → clock < timer.deadline + count * timer.interval → deadline ≤ timer.deadline + count * timer.interval

-- where a timer with an interval is due, its next deadline is the least one past the clock
abbrev pub NextDeadlineIsLeast : Type 0
NextDeadlineIsLeast =
    (clock : ℕ) (timer : Timer) → timer.deadline ≤ clock → 0 < timer.interval → IsNextDeadline clock timer (next_deadline clock timer)

-- a look at a timer and a later one leave what the later one leaves by itself
abbrev pub LooksAgain : Type 0
LooksAgain = (first later : ℕ) (timer : Option Timer) → first ≤ later → looked_at later (looked_at first timer) ≡ looked_at later timer

-- the later look by itself finds the timer due exactly where one of the two looks does
abbrev pub DueAtEither : Type 0
DueAtEither =
    (first later : ℕ) (timer : Option Timer) → first ≤ later
    → is_due later timer ≡ (is_due first timer || is_due later (looked_at first timer))
