-- One tick of the machine that reaches beyond no partition: what happened in it.
use Rattle.std.proofs.Common.{◌≡◌, ◌≢◌, ℕ, Bool, true, false, List, [], Option, None, Some, refl, sym, ap, ◌∙◌}
use Rattle.std.specs.Prelude.{◌==◌, is_some}
use Rattle.std.proofs.lemmas.Bool.{eq-eqb, eqb-true}
use Rattle.cyclic_plans.specs.PlanClock.{ended}
use Rattle.xm_conf.specs.Configuration.{Conf}
use Rattle.xm_ports.specs.Channels.{Content}
use Rattle.machine_model.specs.Lines.{lines_of, lines_unless, order_lines, step_lines}
use Rattle.machine_model.specs.Lists.{all_of, each}
use Rattle.machine_model.specs.LocalTick.{LocalTick}
use Rattle.machine_model.specs.Machine.{Happened, Machine, SlotTurn, act_of, after, after_tick, channel_after, happened, happened_by, if_its_turn, is_turn_of, local, next_clock, part_after, rested_unless, step, step_unless, system_traffic, tick_of, turn_of, worked_in}
use Rattle.machine_model.specs.Partition.{PartitionState}
use Rattle.machine_model.specs.Emission as emission
use Rattle.machine_model.specs.Traffic.{Still}
use Rattle.machine_model.specs.Whole.{NoEvent}
use Rattle.span_model.proofs.ListLemmas.{each_same, none_of}

-- all that a tick did that reached beyond no partition
abbrev pub calm : Option SlotTurn → Option LocalTick → Happened
calm turn tick = record { turn = turn; local = tick; act = emission.Nothing; traffic = Still; event = NoEvent }

-- no traffic is no traffic under every name
still_for : (conf : Conf) (turn : Option SlotTurn) → system_traffic conf turn emission.OwnStill ≡ Still
still_for conf None = refl
still_for conf (Some turn) = refl

-- what a tick did whose local tick reaches beyond no partition
calm_by : (conf : Conf) (turn : Option SlotTurn) (tick : Option LocalTick) → act_of tick ≡ emission.Nothing → happened_by conf turn tick ≡ calm turn tick
unfolding happened_by
calm_by conf turn tick nothing = rw (nothing, still_for conf turn) refl

-- what such a tick did
pub calm_is : (g : Machine) (turn : Option SlotTurn) (tick : Option LocalTick) → turn_of g ≡ turn → local g ≡ tick → act_of tick ≡ emission.Nothing → happened g ≡ calm turn tick
unfolding happened
calm_is g turn tick its_turn its_local nothing = rw (its_turn, its_local) (calm_by g.system.conf turn tick nothing)

-- what it leaves of a partition
pub part_is : (g : Machine) (turn : Option SlotTurn) (tick : Option LocalTick) (k : ℕ) (ps : PartitionState) (mine : Option LocalTick) → if_its_turn (is_turn_of turn k) tick ≡ mine
    → part_after g (calm turn tick) k ps ≡ rested_unless (is_some mine) g.time (worked_in mine ps)
unfolding part_after tick_of after_tick
part_is g turn tick k ps mine is = rw is refl

-- what it leaves of the channels
pub channels_same : (time : ℕ) (turn : Option SlotTurn) (tick : Option LocalTick) (channels : List Content) → each (channel_after time (calm turn tick)) channels ≡ channels
unfolding channel_after
channels_same time turn tick channels = each_same (channel_after time (calm turn tick)) channels (λ k content there. refl)

-- what it leaves of the plan clock
pub clock_is : (g : Machine) (turn : Option SlotTurn) (tick : Option LocalTick) → next_clock g (calm turn tick) ≡ ended g.system.conf g.clock g.time
unfolding next_clock
clock_is g turn tick = refl

-- no order is given
pub no_order_lines : (g : Machine) (turn : Option SlotTurn) (tick : Option LocalTick) → all_of (order_lines g (calm turn tick)) g.parts ≡ []
unfolding order_lines
no_order_lines g turn tick = none_of (order_lines g (calm turn tick)) g.parts (λ k ps. refl)

-- the step of a machine that has not halted
pub step_as : (g : Machine) (h : Happened) → g.halted ≡ false → happened g ≡ h → step g ≡ after g h
unfolding step
step_as g h runs is = ap (λ b. step_unless b g) runs ∙ ap (after g) is

-- its lines are those of what happened
pub lines_as : (g : Machine) (h : Happened) → g.halted ≡ false → happened g ≡ h → step_lines g ≡ lines_of g h
unfolding step_lines
lines_as g h runs is = ap (λ b. lines_unless b g) runs ∙ ap (lines_of g) is

-- where there is no local tick, it is nobody's
pub none_either : (b : Bool) → if_its_turn b None ≡ None
none_either true = refl
none_either false = refl

-- the local tick is not that of a partition whose turn it is not
pub not_its : (turn : SlotTurn) (tick : LocalTick) (k : ℕ) → k ≢ turn.part → if_its_turn (is_turn_of (Some turn) k) (Some tick) ≡ None
not_its turn tick k other = ap (λ b. if_its_turn b (Some tick)) (not_same (turn.part == k) refl)
  where
    not_same : (b : Bool) → (turn.part == k) ≡ b → b ≡ false
    not_same true is = absurd (other (sym (eqb-true turn.part k is)))
    not_same false is = refl

-- and the local tick is that of the partition whose turn it is
pub its : (turn : SlotTurn) (tick : LocalTick) → if_its_turn (is_turn_of (Some turn) turn.part) (Some tick) ≡ Some tick
its turn tick = ap (λ b. if_its_turn b (Some tick)) (eq-eqb turn.part turn.part refl)
