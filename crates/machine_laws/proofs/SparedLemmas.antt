-- What a tick leaves of a partition that has no part in it.
use Rattle.std.proofs.Common.{◌≡◌, ◌≢◌, ℕ, ◌<◌, ◌^◌, Bool, true, false, List, [], ◌∷◌, Option, None, Some, refl, sym, ap, ◌∙◌, arith, subst}
use Rattle.std.specs.Prelude.{◌==◌, ◌||◌, ◌&&◌, bit_or, max, if◌then◌else◌}
use Rattle.std.specs.Int.{bit_at}
use Rattle.std.proofs.lemmas.Bool.Decides.{nat_tests}
use Rattle.std.proofs.lemmas.Nat.Bits.{bit_at-lt, bit_at-pow_other, bit_at_or}
use Rattle.xm_conf.specs.declared.port.Port.{Port}
use Rattle.xm_conf.specs.declared.channel.ChanKind.{ChanKind}
use Rattle.xm_conf.specs.declared.channel.ChanKind.TheVariants as kind
use Rattle.xm_base.specs.declared.partition.Order.{Order}
use Rattle.xm_base.specs.declared.partition.Order.TheVariants as order
use Rattle.virt_clocks.specs.Clocks.{is_due, looked_at}
use Rattle.virt_clocks.specs.declared.timer.Timer.{Timer}
use Rattle.virt_traps.specs.Virtual.{raised}
use Rattle.machine_model.specs.Alone.{Alone, alone_after, alone_local, alone_step}
use Rattle.machine_model.specs.Cue.{Cue, cue}
use Rattle.machine_model.specs.Laws.{OneTick, part}
use Rattle.machine_model.specs.Machine.{after_tick, obeyed, step}
use Rattle.machine_model.specs.Partition.{PartitionState, applies, carried_out, disarmed, hardware_looked_at, hardware_timer, is_halted, link_signal, ordered, raised_if, rested, shutdown}
use Rattle.machine_laws.specs.Spared.{IsSpared, Spares, SparesAlone, comes_from_outside, is_reset_event, is_reset_order}
use Rattle.machine_model.specs.Emission.{AllHalted, AllReset, NoEvent, OwnPuts, OwnSignals, OwnStill, OwnTakes, OwnTraffic, WholeEvent}
use Rattle.machine_model.specs.Traffic.{after_message, first_heard, heard_from, hearing, hears, interrupt_of, interrupted, is_destination}
use Rattle.machine_model.specs.View.{PartitionView, PortChannel, view_of}
use Rattle.machine_model.specs.Whole.{after_event}
use Rattle.machine_laws.proofs.FromEqualLemmas.{part_state, state_there}

same : (ps : PartitionState) → IsSpared ps ps
same ps = record {
  core = refl;
  memory = refl;
  made = refl;
  traces = refl;
  health = refl;
  inputs = refl;
  resets = refl;
  reset_status = refl;
  execution = refl;
  enabled = refl;
  base = refl;
  mask = refl;
  pending = λ n is. is;
  others = λ n outside. refl;
}

and_then : (a b c : PartitionState) → IsSpared a b → IsSpared b c → IsSpared a c
and_then a b c first second = record {
  core = second.core ∙ first.core;
  memory = second.memory ∙ first.memory;
  made = second.made ∙ first.made;
  traces = second.traces ∙ first.traces;
  health = second.health ∙ first.health;
  inputs = second.inputs ∙ first.inputs;
  resets = second.resets ∙ first.resets;
  reset_status = second.reset_status ∙ first.reset_status;
  execution = second.execution ∙ first.execution;
  enabled = second.enabled ∙ first.enabled;
  base = second.base ∙ first.base;
  mask = second.mask ∙ first.mask;
  pending = λ n is. second.pending n (first.pending n is);
  others = λ n outside. second.others n outside ∙ first.others n outside;
}

-- an interrupt that comes
stays_set : (bits k n : ℕ) → bit_at bits n ≡ 1 → bit_at (bit_or bits (2 ^ k)) n ≡ 1
stays_set bits k n is = let below : bit_at (2 ^ k) n < 2 = bit_at-lt (2 ^ k) n in bit_at_or bits (2 ^ k) n ∙ omega (arith, is, below)

other_bits : (bits k n : ℕ) → n ≢ k → bit_at (bit_or bits (2 ^ k)) n ≡ bit_at bits n
other_bits bits k n other = bit_at_or bits (2 ^ k) n ∙ ap (max (bit_at bits n)) (bit_at-pow_other k n other) ∙ (let e : max (bit_at bits n) 0 ≡ bit_at bits n = omega arith in e)

apart : (k n : ℕ) → comes_from_outside k ≡ true → comes_from_outside n ≡ false → n ≢ k
apart k n comes not_come is = let e : comes_from_outside n ≡ true = ap comes_from_outside is ∙ comes in absurd cc

comes : (k : ℕ) (ps : PartitionState) → comes_from_outside k ≡ true → IsSpared ps (record ps { traps = raised k ps.traps })
unfolding raised
comes k ps outside = record {
  core = refl;
  memory = refl;
  made = refl;
  traces = refl;
  health = refl;
  inputs = refl;
  resets = refl;
  reset_status = refl;
  execution = refl;
  enabled = refl;
  base = refl;
  mask = refl;
  pending = λ n is. stays_set ps.traps.pending k n is;
  others = λ n not_come. other_bits ps.traps.pending k n (apart k n outside not_come);
}

-- messages and signals
abbrev OutsideOnly : Option ℕ → Type 0
OutsideOnly None = Unit {0}
OutsideOnly (Some n) = comes_from_outside n ≡ true

spares_interrupted : (o : Option ℕ) (ps : PartitionState) → OutsideOnly o → IsSpared ps (interrupted o ps)
spares_interrupted None ps outside = same ps
spares_interrupted (Some n) ps outside = by (is_halted ps.state)
  where
    by : (b : Bool) → IsSpared ps (if b then ps else record ps { traps = raised n ps.traps })
    by true = same ps
    by false = comes n ps outside

interrupt_outside : (a_kind : ChanKind) → comes_from_outside (interrupt_of a_kind) ≡ true
interrupt_outside (kind.Sampling refresh) = refl
interrupt_outside (kind.Queuing most) = refl

first_outside : (a b : Option ℕ) → OutsideOnly a → OutsideOnly b → OutsideOnly (first_heard a b)
first_outside None b first second = second
first_outside (Some n) b first second = first

hears_outside : (q : ℕ) (port : Port) (made : Bool) (o : Option PortChannel) → OutsideOnly (hears q port made o)
hears_outside q port made None = tt
hears_outside q port made (Some channel) = by (is_destination port.way && made && channel.name == q)
  where
    by : (b : Bool) → OutsideOnly (if b then Some (interrupt_of channel.shape.kind) else None)
    by true = interrupt_outside channel.shape.kind
    by false = tt

heard_outside : (q : ℕ) (ports : List Port) (made : List Bool) (channels : List (Option PortChannel)) → OutsideOnly (heard_from q ports made channels)
heard_outside q [] made channels = tt
heard_outside q (port ∷ ports) [] channels = tt
heard_outside q (port ∷ ports) (one ∷ made) [] = tt
heard_outside q (port ∷ ports) (one ∷ made) (channel ∷ channels) =
    first_outside (hears q port one channel) (heard_from q ports made channels) (hears_outside q port one channel) (heard_outside q ports made channels)

signal_outside : (number : ℕ) → comes_from_outside (link_signal number) ≡ true
signal_outside number = grind (arith, nat_tests)

spares_hearing : (view : PartitionView) (traffic : OwnTraffic) (ps : PartitionState) → IsSpared ps (hearing view traffic ps)
unfolding after_message
spares_hearing view OwnStill ps = same ps
spares_hearing view (OwnPuts q bytes) ps =
    spares_interrupted (heard_from q view.part.ports ps.made view.channels) ps (heard_outside q view.part.ports ps.made view.channels)
spares_hearing view (OwnTakes q) ps = same ps
spares_hearing view (OwnSignals number) ps = spares_interrupted (Some (link_signal number)) ps (signal_outside number)

-- orders
spares_carried : (view : PartitionView) (an_order : Order) (ps : PartitionState) → is_reset_order (Some an_order) ≡ false → IsSpared ps (carried_out view an_order ps)
unfolding disarmed
spares_carried view order.Halt ps none = record {
  core = refl;
  memory = refl;
  made = refl;
  traces = refl;
  health = refl;
  inputs = refl;
  resets = refl;
  reset_status = refl;
  execution = refl;
  enabled = refl;
  base = refl;
  mask = refl;
  pending = λ n is. is;
  others = λ n outside. refl;
}
spares_carried view order.Suspend ps none = record {
  core = refl;
  memory = refl;
  made = refl;
  traces = refl;
  health = refl;
  inputs = refl;
  resets = refl;
  reset_status = refl;
  execution = refl;
  enabled = refl;
  base = refl;
  mask = refl;
  pending = λ n is. is;
  others = λ n outside. refl;
}
spares_carried view order.Resume ps none = record {
  core = refl;
  memory = refl;
  made = refl;
  traces = refl;
  health = refl;
  inputs = refl;
  resets = refl;
  reset_status = refl;
  execution = refl;
  enabled = refl;
  base = refl;
  mask = refl;
  pending = λ n is. is;
  others = λ n outside. refl;
}
spares_carried view order.Shutdown ps none = comes shutdown ps refl
spares_carried view (order.Reset mode status) ps none = absurd cc

spares_ordered : (view : PartitionView) (an_order : Order) (ps : PartitionState) → is_reset_order (Some an_order) ≡ false → IsSpared ps (ordered view an_order ps)
unfolding ordered
spares_ordered view an_order ps none = by (applies an_order ps.state)
  where
    by : (b : Bool) → IsSpared ps (if b then carried_out view an_order ps else ps)
    by true = spares_carried view an_order ps none
    by false = same ps

spares_obeyed : (view : PartitionView) (o : Option Order) (ps : PartitionState) → is_reset_order o ≡ false → IsSpared ps (obeyed view o ps)
spares_obeyed view None ps none = same ps
spares_obeyed view (Some an_order) ps none = spares_ordered view an_order ps none

-- events, and rest
spares_event : (view : PartitionView) (event : WholeEvent) (ps : PartitionState) → is_reset_event event ≡ false → IsSpared ps (after_event view event ps)
spares_event view NoEvent ps none = same ps
spares_event view (AllReset mode) ps none = absurd cc
spares_event view AllHalted ps none = same ps

clocked : (timer : Option Timer) (ps : PartitionState) → IsSpared ps (record ps { clocks = record ps.clocks { hardware_timer = timer } })
clocked timer ps = record {
  core = refl;
  memory = refl;
  made = refl;
  traces = refl;
  health = refl;
  inputs = refl;
  resets = refl;
  reset_status = refl;
  execution = refl;
  enabled = refl;
  base = refl;
  mask = refl;
  pending = λ n is. is;
  others = λ n outside. refl;
}

raised_timer : (b : Bool) (ps : PartitionState) → IsSpared ps (record ps { traps = raised_if b hardware_timer ps.traps })
raised_timer true ps = comes hardware_timer ps refl
raised_timer false ps = same ps

looked : (time : ℕ) (ps : PartitionState) → IsSpared ps (hardware_looked_at time ps)
unfolding hardware_looked_at
looked time ps =
    and_then ps (record ps { traps = raised_if (is_due time ps.clocks.hardware_timer) hardware_timer ps.traps }) (hardware_looked_at time ps)
    (raised_timer (is_due time ps.clocks.hardware_timer) ps)
    (clocked (looked_at time ps.clocks.hardware_timer) (record ps { traps = raised_if (is_due time ps.clocks.hardware_timer) hardware_timer ps.traps }))

spares_rest : (time : ℕ) (ps : PartitionState) → IsSpared ps (rested time ps)
unfolding rested
spares_rest time ps = by (is_halted ps.state)
  where
    by : (b : Bool) → IsSpared ps (if b then ps else hardware_looked_at time ps)
    by true = same ps
    by false = looked time ps

-- all of it
neither : (a b : Bool) → (a || b) ≡ false → (a ≡ false) × (b ≡ false)
neither false false none = (refl, refl)
neither false true none = absurd cc
neither true b none = absurd cc

spares_after : (view : PartitionView) (time : ℕ) (traffic : OwnTraffic) (o : Option Order) (event : WholeEvent) (ps : PartitionState) → is_reset_order o ≡ false → is_reset_event event ≡ false
    → IsSpared ps (after_tick view time false traffic o event ps)
unfolding after_tick
spares_after view time traffic o event ps no_order no_event =
    and_then ps (hearing view traffic ps) _ (spares_hearing view traffic ps)
    (and_then (hearing view traffic ps) (obeyed view o (hearing view traffic ps)) _ (spares_obeyed view o (hearing view traffic ps) no_order)
    (and_then (obeyed view o (hearing view traffic ps)) (after_event view event (obeyed view o (hearing view traffic ps))) _
    (spares_event view event (obeyed view o (hearing view traffic ps)) no_event)
    (spares_rest time (after_event view event (obeyed view o (hearing view traffic ps))))))

step_state : (view : PartitionView) (a : Alone) (cue : Cue) → alone_local view a cue ≡ None
    → (alone_step view a cue).state ≡ after_tick view a.time false cue.traffic cue.order cue.whole a.state
unfolding alone_step alone_after
step_state view a cue none = ap (λ tick. (alone_after view a cue tick).state) none

pub spares_alone : SparesAlone
spares_alone view a cue none received =
    let both = neither (is_reset_order cue.order) (is_reset_event cue.whole) received in
    subst (IsSpared a.state) (sym (step_state view a cue none)) (spares_after view a.time cue.traffic cue.order cue.whole a.state both.0 both.1)

pub spares : OneTick → Spares
spares tick g q ps runs there none received = record {
  after = (alone_step (view_of g.system q) (part g q ps) (cue g q)).state;
  there = state_there (step g) q (alone_step (view_of g.system q) (part g q ps) (cue g q)) (tick g q ps runs there).state;
  spared = subst (λ before. IsSpared before (alone_step (view_of g.system q) (part g q ps) (cue g q)).state) (part_state g q ps)
      (spares_alone (view_of g.system q) (part g q ps) (cue g q) none received);
}
