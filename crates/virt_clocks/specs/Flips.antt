-- A bit of the deadline of a timer that flips.
use Rattle.std.specs.Prelude.{ℕ, ◌^◌, Option, Some, None, bit_xor}
use Rattle.virt_clocks.specs.Clocks.{armed}
use Rattle.virt_clocks.specs.declared.timer.Timer.{Timer}

-- the deadline and the interval of a timer; those of one that is not armed are 0, as the call that sets a timer has it
abbrev pub deadline_of : Option Timer → ℕ
deadline_of None = 0
deadline_of (Some timer) = timer.deadline

abbrev pub interval_of : Option Timer → ℕ
interval_of None = 0
interval_of (Some timer) = timer.interval

-- a timer after the flip of a bit of its deadline: a deadline of 0 disarms it, and one that was 0 is armed
abbrev pub flipped_timer : ℕ → Option Timer → Option Timer
flipped_timer bit timer = armed (bit_xor (deadline_of timer) (2 ^ bit)) (interval_of timer)
