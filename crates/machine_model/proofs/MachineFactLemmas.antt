-- The hardware clock is not past the ticks, and the numbers of partitions and channels stay.
use Rattle.std.proofs.Common.{◌≡◌, ℕ, zero, suc, ◌≤◌, Bool, true, false, length, refl, sym, ap, ◌∙◌, arith, subst}
use Rattle.std.specs.Prelude.{map}
use Rattle.std.proofs.lemmas.List.{length-map}
use Rattle.xm_ports.specs.Channels.{empty, shape_of, shapes_of}
use Rattle.machine_model.specs.lemmas.TickLemmas.{step_halted, step_runs}
use Rattle.machine_model.specs.Facts.{BootsComplete, BootsTimed, IsAsMany, IsComplete, IsTimed, KeepsNumbers, KeepsTimed, RunsComplete, RunsKeepNumbers, RunsTimed}
use Rattle.machine_model.specs.Machine.{Machine, after, booted_part, channel_after, happened, part_after, run, start, step}
use Rattle.machine_model.specs.View.{System}
use Rattle.machine_model.specs.Whole.{AllHalted, AllReset, NoEvent, WholeEvent, ticks_after, time_after}
use Rattle.machine_model.specs.lemmas.ListLemmas.{each_counted, table_counted}

-- a tick on both clocks, a reset of the hardware clock, or none on either
event_timed : (e : WholeEvent) (time ticks : ℕ) → time ≤ ticks → time_after e time ≤ ticks_after e ticks
event_timed NoEvent time ticks below = omega (arith, below)
event_timed (AllReset mode) time ticks below = omega arith
event_timed AllHalted time ticks below = below

after_timed : (g : Machine) → IsTimed g → IsTimed (after g (happened g))
unfolding after
after_timed g timed = event_timed (happened g).event g.time g.ticks timed

pub keeps_timed : KeepsTimed
keeps_timed g timed = at g.halted refl
  where
    at : (b : Bool) → g.halted ≡ b → IsTimed (step g)
    at true halts = subst IsTimed (sym (step_halted g halts)) timed
    at false runs = subst IsTimed (sym (step_runs g runs)) (after_timed g timed)

pub boots_timed : BootsTimed
unfolding start
boots_timed system = omega arith

run_timed : (count : ℕ) (g : Machine) → IsTimed g → IsTimed (run g count)
run_timed zero g timed = timed
run_timed (suc count) g timed = run_timed count (step g) (keeps_timed g timed)

pub runs_timed : RunsTimed
runs_timed system count = run_timed count (start system) (boots_timed system)

-- a machine has as many as itself, and as many as one that has as many
itself : (g : Machine) → IsAsMany g g
itself g = record { system = refl; parts = refl; channels = refl }

then_as_many : (g h k : Machine) → IsAsMany g h → IsAsMany h k → IsAsMany g k
then_as_many g h k one other = record {
  system = other.system ∙ one.system;
  parts = other.parts ∙ one.parts;
  channels = other.channels ∙ one.channels;
}

after_as_many : (g : Machine) → IsAsMany g (after g (happened g))
unfolding after
after_as_many g = record {
  system = refl;
  parts = each_counted (part_after g (happened g)) g.parts;
  channels = each_counted (channel_after g.time (happened g)) g.channels;
}

pub keeps_numbers : KeepsNumbers
keeps_numbers g = at g.halted refl
  where
    at : (b : Bool) → g.halted ≡ b → IsAsMany g (step g)
    at true halts = subst (IsAsMany g) (sym (step_halted g halts)) (itself g)
    at false runs = subst (IsAsMany g) (sym (step_runs g runs)) (after_as_many g)

pub runs_keep_numbers : RunsKeepNumbers
runs_keep_numbers g zero = itself g
runs_keep_numbers g (suc count) = then_as_many g (step g) (run g (suc count)) (keeps_numbers g) (runs_keep_numbers (step g) count)

-- a machine with as many as a complete one is complete
stays_complete : (g h : Machine) → IsComplete g → IsAsMany g h → IsComplete h
stays_complete g h complete many = record {
  parts = many.parts ∙ complete.parts ∙ ap (λ (s : System). length s.conf.parts) (sym many.system);
  channels = many.channels ∙ complete.channels ∙ ap (λ (s : System). length s.conf.chans) (sym many.system);
}

pub boots_complete : BootsComplete
unfolding shapes_of start
boots_complete system = record {
  parts = table_counted (booted_part system) (length system.conf.parts);
  channels = length-map (map shape_of system.conf.chans) empty ∙ length-map system.conf.chans shape_of;
}

pub runs_complete : RunsComplete
runs_complete system count = stays_complete (start system) (run (start system) count) (boots_complete system) (runs_keep_numbers (start system) count)
