-- The plan clock: which cyclic plan runs, since when, and which is to follow.
use Rattle.std.specs.Prelude.{◌≡◌, ◌≢◌, ℕ, ◌+◌, ◌-◌, ◌<◌, ◌≤◌, ◌==◌, Bool, if◌then◌else◌, IsTrue, length, Option, Some, None, IfSome, unwrap_or}
use Rattle.xm_base.specs.Options.{on}
use Rattle.xm_conf.specs.Configuration.{Conf}
use Rattle.xm_conf.specs.declared.plan.Slot.{Slot}
use Rattle.cyclic_plans.specs.Slots.{slots_of, frame_of, slot_from, here_in, stretch_end}
use Rattle.cyclic_plans.specs.declared.slots.Here.{Here}

-- a plan clock: the plan that runs, the tick with which its frame began, and the plan that is asked for
pub record CyclicClock : Type 0 where
  pub plan : ℕ
  pub frame_start : ℕ
  pub asked : Option ℕ

-- the clock of a frame of a plan that begins with a tick, and nothing asked
abbrev pub frame_from : ℕ → ℕ → CyclicClock
frame_from plan start = record { plan = plan; frame_start = start; asked = None }

-- the clock of a system that begins: plan 0, from tick 0 on, and nothing asked
unfoldable pub started : CyclicClock
started = frame_from 0 0

-- how far a tick is into the frame
abbrev pub moment : CyclicClock → ℕ → ℕ
moment clock now = now - clock.frame_start

-- the clock runs a plan of the configuration, and the tick is in its frame
pub record IsInFrame (conf : Conf) (clock : CyclicClock) (now : ℕ) : Type 0 where
  pub plan : clock.plan < length conf.plans
  pub begun : clock.frame_start ≤ now
  pub before_end : now < clock.frame_start + frame_of conf clock.plan

-- the slot that runs in a tick, with its number
unfoldable pub slot_at : Conf → CyclicClock → ℕ → Option (ℕ × Slot)
slot_at conf clock now = slot_from (moment clock now) 0 (slots_of conf clock.plan)

-- what runs in a tick
unfoldable pub here : Conf → CyclicClock → ℕ → Option Here
here conf clock now = on (here_in (moment clock now)) (slot_at conf clock now)

-- whether the frame ends with a tick
abbrev pub ends_frame : Conf → CyclicClock → ℕ → Bool
ends_frame conf clock now = now + 1 - clock.frame_start == frame_of conf clock.plan

-- the plan of the next frame: the one that is asked for, or else the same
abbrev pub next_plan : CyclicClock → ℕ
next_plan clock = unwrap_or clock.asked clock.plan

-- the clock of the next tick: where the frame ends the next one begins, and nothing is asked any more
unfoldable pub ended : Conf → CyclicClock → ℕ → CyclicClock
ended conf clock now = if ends_frame conf clock now then frame_from (next_plan clock) (now + 1) else clock

-- the clock of the next tick after an action that starts the maintenance plan, which is plan 1
unfoldable pub in_maintenance : ℕ → CyclicClock
in_maintenance now = frame_from 1 (now + 1)

-- a plan, where it is another than the old one
abbrev pub other_plan : ℕ → ℕ → Option ℕ
other_plan old new = if new == old then None else Some new

-- the plan that starts with the next tick, where it is another than before
unfoldable pub entered_plan : Conf → CyclicClock → ℕ → Option ℕ
entered_plan conf clock now = if ends_frame conf clock now then other_plan clock.plan (next_plan clock) else None

-- the frame ends with a tick, and another plan starts
pub record Enters (conf : Conf) (before after : CyclicClock) (now plan : ℕ) : Type 0 where
  pub ends : IsTrue (ends_frame conf before now)
  pub new : plan ≡ after.plan
  pub other : plan ≢ before.plan

-- the plan that is asked for, if there is one, is a plan of the configuration
abbrev pub AsksPlan : Conf → CyclicClock → Type 0
AsksPlan conf clock = IfSome clock.asked (λ plan. plan < length conf.plans)

-- the ticks from a tick on to the end of its slot or gap
unfoldable pub ticks_left : Conf → CyclicClock → ℕ → ℕ
ticks_left conf clock now =
    stretch_end (frame_of conf clock.plan) (moment clock now) (slots_of conf clock.plan) - moment clock now
