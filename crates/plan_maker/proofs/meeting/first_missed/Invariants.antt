-- The windows so far have enough.
use Rattle.std.proofs.Common.{ℕ, ◌<◌}
use Rattle.plan_maker.specs.Planned.{IsEnough}
use Rattle.plan_maker.proofs.meeting.first_missed.Given as goal

abbrev pub invariant-loop-window : goal.invariant-loop-window
invariant-loop-window l = (earlier : ℕ) → earlier < l.window → IsEnough l.plan l.part l.need earlier
