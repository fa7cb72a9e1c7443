-- Partitions that rest late: what a tick leaves of them.
use Rattle.std.proofs.Common.{◌≡◌, ◌≢◌, ℕ, ◌≤◌, ◌⊎◌, inl, inr, Bool, true, false, Option, None, Some, refl, sym, ap, ◌∙◌}
use Rattle.std.specs.Prelude.{if◌then◌else◌}
use Rattle.virt_clocks.specs.Clocks.{is_due, looked_at}
use Rattle.virt_traps.specs.Virtual.{VirtualTraps, raised}
use Rattle.xm_base.specs.declared.partition.Mode.{Mode}
use Rattle.xm_base.specs.declared.partition.Order.{Order}
use Rattle.xm_base.specs.declared.partition.Order.TheVariants as order
use Rattle.xm_base.specs.declared.partition.State.{State}
use Rattle.xm_base.specs.declared.partition.State.TheVariants.{Ready, Suspended}
use Rattle.machine_model.specs.LocalTick.{with_interrupts}
use Rattle.machine_model.specs.Machine.{after_tick, obeyed}
use Rattle.machine_model.specs.Partition.{PartitionState, applies, carried_out, execution_looked_at, hardware_looked_at, hardware_timer, is_halted, link_signal, ordered, reset, rested, shutdown, slot_start}
use Rattle.machine_model.specs.Emission.{OwnPuts, OwnSignals, OwnStill, OwnTakes, OwnTraffic}
use Rattle.machine_model.specs.Traffic.{after_message, heard_from, hearing, interrupted}
use Rattle.machine_model.specs.View.{PartitionView}
use Rattle.machine_model.specs.Whole.{AllHalted, AllReset, NoEvent, WholeEvent, after_event}
use Rattle.span_model.specs.Rest.{MeetsAfterRest, RestsBefore}
use Rattle.span_model.proofs.RestLemmas.{hardware_state, hardware_twice, raised_if_turned, rested_halted, rested_runs}
use Rattle.span_model.specs.Meeting.{began}

-- one state is the other, or the other when its hardware timer was looked at before
abbrev IsLooked : ℕ → PartitionState → PartitionState → Type 0
IsLooked before a b = (a ≡ b) ⊎ ((a ≡ hardware_looked_at before b) × (is_halted b.state ≡ false))

-- a partition that rested
looked_first : (before : ℕ) (ps : PartitionState) → IsLooked before (rested before ps) ps
looked_first before ps = at (is_halted ps.state) refl
  where
    at : (b : Bool) → is_halted ps.state ≡ b → IsLooked before (rested before ps) ps
    at true halted = inl (rested_halted before ps halted)
    at false runs = inr (rested_runs before ps runs, runs)

-- an interrupt that is raised before or after a look at the hardware timer
raised_looked : (before n : ℕ) (ps : PartitionState)
    → record (hardware_looked_at before ps) { traps = raised n (hardware_looked_at before ps).traps } ≡ hardware_looked_at before (record ps { traps = raised n ps.traps })
unfolding hardware_looked_at
raised_looked before n ps =
    ap (λ (traps : VirtualTraps). record ps { traps = traps; clocks = record ps.clocks { hardware_timer = looked_at before ps.clocks.hardware_timer } })
    (raised_if_turned true (is_due before ps.clocks.hardware_timer) n hardware_timer ps.traps)

-- an interrupt of a message that comes before or after it
interrupted_looked : (before : ℕ) (heard : Option ℕ) (ps : PartitionState) → is_halted ps.state ≡ false
    → interrupted heard (hardware_looked_at before ps) ≡ hardware_looked_at before (interrupted heard ps)
interrupted_looked before None ps runs = refl
interrupted_looked before (Some n) ps runs =
    ap (λ (b : Bool). if b then hardware_looked_at before ps else record (hardware_looked_at before ps) { traps = raised n (hardware_looked_at before ps).traps })
    (ap is_halted (hardware_state before ps) ∙ runs)
    ∙ raised_looked before n ps
    ∙ ap (λ (b : Bool). hardware_looked_at before (if b then ps else record ps { traps = raised n ps.traps })) (sym runs)

-- an interrupt of a message leaves the state
interrupted_state : (heard : Option ℕ) (ps : PartitionState) → (interrupted heard ps).state ≡ ps.state
interrupted_state None ps = refl
interrupted_state (Some n) ps = at (is_halted ps.state)
  where
    at : (b : Bool) → (if b then ps else record ps { traps = raised n ps.traps }).state ≡ ps.state
    at true = refl
    at false = refl

-- a look leaves the ports
same_made : (before : ℕ) (ps : PartitionState) → (hardware_looked_at before ps).made ≡ ps.made
unfolding hardware_looked_at
same_made before ps = refl

-- a message that comes before or after it
message_looked : (view : PartitionView) (before q : ℕ) (ps : PartitionState) → is_halted ps.state ≡ false
    → after_message view q (hardware_looked_at before ps) ≡ hardware_looked_at before (after_message view q ps)
unfolding after_message
message_looked view before q ps runs =
    ap (λ made. interrupted (heard_from q view.part.ports made view.channels) (hardware_looked_at before ps)) (same_made before ps)
    ∙ interrupted_looked before (heard_from q view.part.ports ps.made view.channels) ps runs

-- a message leaves the state
message_state : (view : PartitionView) (q : ℕ) (ps : PartitionState) → (after_message view q ps).state ≡ ps.state
unfolding after_message
message_state view q ps = interrupted_state (heard_from q view.part.ports ps.made view.channels) ps

-- traffic
looked_hearing : (view : PartitionView) (before : ℕ) (traffic : OwnTraffic) (a b : PartitionState) → IsLooked before a b
    → IsLooked before (hearing view traffic a) (hearing view traffic b)
looked_hearing view before OwnStill a b is = is
looked_hearing view before (OwnTakes q) a b is = is
looked_hearing view before (OwnPuts q bytes) a b (inl same) = inl (ap (after_message view q) same)
looked_hearing view before (OwnPuts q bytes) a b (inr (looked, runs)) =
    inr (ap (after_message view q) looked ∙ message_looked view before q b runs, ap is_halted (message_state view q b) ∙ runs)
looked_hearing view before (OwnSignals number) a b (inl same) = inl (ap (interrupted (Some (link_signal number))) same)
looked_hearing view before (OwnSignals number) a b (inr (looked, runs)) =
    inr (ap (interrupted (Some (link_signal number))) looked ∙ interrupted_looked before (Some (link_signal number)) b runs, ap is_halted (interrupted_state (Some (link_signal number)) b) ∙ runs)

-- a state that is given before or after a look
state_looked : (before : ℕ) (state : State) (ps : PartitionState) → record (hardware_looked_at before ps) { state = state } ≡ hardware_looked_at before (record ps { state = state })
unfolding hardware_looked_at
state_looked before state ps = refl

-- an order that is carried out before or after a look
ordered_looked : (view : PartitionView) (before : ℕ) (an_order : Order) (ps : PartitionState)
    → carried_out view an_order (hardware_looked_at before ps) ≡ hardware_looked_at before (carried_out view an_order ps)
    → ordered view an_order (hardware_looked_at before ps) ≡ hardware_looked_at before (ordered view an_order ps)
unfolding ordered
ordered_looked view before an_order ps same =
    ap (λ state. if applies an_order state then carried_out view an_order (hardware_looked_at before ps) else hardware_looked_at before ps) (hardware_state before ps)
    ∙ at (applies an_order ps.state)
  where
    at : (b : Bool) → (if b then carried_out view an_order (hardware_looked_at before ps) else hardware_looked_at before ps)
        ≡ hardware_looked_at before (if b then carried_out view an_order ps else ps)
    at true = same
    at false = refl

-- a partition that has not halted has not after an order that does not halt it
ordered_runs : (view : PartitionView) (an_order : Order) (ps : PartitionState) → is_halted ps.state ≡ false → is_halted (carried_out view an_order ps).state ≡ false
    → is_halted (ordered view an_order ps).state ≡ false
unfolding ordered
ordered_runs view an_order ps runs carried = at (applies an_order ps.state)
  where
    at : (b : Bool) → is_halted (if b then carried_out view an_order ps else ps).state ≡ false
    at true = carried
    at false = runs

-- a reset makes up for a look
reset_looked : (view : PartitionView) (before : ℕ) (mode : Mode) (status : ℕ) (ps : PartitionState) → reset view mode status (hardware_looked_at before ps) ≡ reset view mode status ps
unfolding hardware_looked_at reset
reset_looked view before mode status ps = refl

-- an order that applies always
ordered_reset : (view : PartitionView) (mode : Mode) (status : ℕ) (ps : PartitionState) → ordered view (order.Reset mode status) ps ≡ reset view mode status ps
unfolding ordered
ordered_reset view mode status ps = refl

-- orders
looked_obeyed : (view : PartitionView) (before : ℕ) (given : Option Order) (a b : PartitionState) → given ≢ Some order.Halt → IsLooked before a b
    → IsLooked before (obeyed view given a) (obeyed view given b)
looked_obeyed view before None a b other is = is
looked_obeyed view before (Some an_order) a b other (inl same) = inl (ap (ordered view an_order) same)
looked_obeyed view before (Some order.Halt) a b other (inr (looked, runs)) = absurd (other refl)
looked_obeyed view before (Some order.Suspend) a b other (inr (looked, runs)) =
    inr (ap (ordered view order.Suspend) looked ∙ ordered_looked view before order.Suspend b (state_looked before Suspended b), ordered_runs view order.Suspend b runs refl)
looked_obeyed view before (Some order.Resume) a b other (inr (looked, runs)) =
    inr (ap (ordered view order.Resume) looked ∙ ordered_looked view before order.Resume b (state_looked before Ready b), ordered_runs view order.Resume b runs refl)
looked_obeyed view before (Some order.Shutdown) a b other (inr (looked, runs)) =
    inr (ap (ordered view order.Shutdown) looked ∙ ordered_looked view before order.Shutdown b (raised_looked before shutdown b), ordered_runs view order.Shutdown b runs runs)
looked_obeyed view before (Some (order.Reset mode status)) a b other (inr (looked, runs)) =
    inl (ap (ordered view (order.Reset mode status)) looked ∙ ordered_reset view mode status (hardware_looked_at before b)
    ∙ reset_looked view before mode status b ∙ sym (ordered_reset view mode status b))

-- hypervisor events
looked_event : (view : PartitionView) (before : ℕ) (event : WholeEvent) (a b : PartitionState) → IsLooked before a b → IsLooked before (after_event view event a) (after_event view event b)
looked_event view before NoEvent a b is = is
looked_event view before AllHalted a b is = is
looked_event view before (AllReset mode) a b (inl same) = inl (ap (reset view mode 0) same)
looked_event view before (AllReset mode) a b (inr (looked, runs)) = inl (ap (reset view mode 0) looked ∙ reset_looked view before mode 0 b)

-- rest makes up for an earlier look
rested_looked : (before time : ℕ) (a b : PartitionState) → before ≤ time → IsLooked before a b → rested time a ≡ rested time b
rested_looked before time a b later (inl same) = ap (rested time) same
rested_looked before time a b later (inr (looked, runs)) =
    ap (rested time) looked ∙ rested_runs time (hardware_looked_at before b) (ap is_halted (hardware_state before b) ∙ runs)
    ∙ hardware_twice before time b later ∙ sym (rested_runs time b runs)

-- what a tick leaves of a partition that rests late
pub rests_before : RestsBefore
unfolding after_tick
rests_before view before time traffic an_order event ps later other =
    rested_looked before time (after_event view event (obeyed view an_order (hearing view traffic (rested before ps)))) (after_event view event (obeyed view an_order (hearing view traffic ps))) later
    (looked_event view before event (obeyed view an_order (hearing view traffic (rested before ps))) (obeyed view an_order (hearing view traffic ps))
    (looked_obeyed view before an_order (hearing view traffic (rested before ps)) (hearing view traffic ps) other
    (looked_hearing view before traffic (rested before ps) ps (looked_first before ps))))

-- the start of a slot that comes before or after a look
began_looked : (before : ℕ) (first : Bool) (ps : PartitionState) → began first (hardware_looked_at before ps) ≡ hardware_looked_at before (began first ps)
began_looked before true ps = raised_looked before slot_start ps
began_looked before false ps = refl

-- the interrupts of a tick are the start of the slot and then the looks
begins_first : (time : ℕ) (first : Bool) (ps : PartitionState) → with_interrupts time first ps ≡ execution_looked_at (hardware_looked_at time (began first ps))
unfolding with_interrupts
begins_first time first ps = refl

-- the interrupts of a tick of a partition that rested
pub meets_after_rest : MeetsAfterRest
meets_after_rest before time first ps later runs =
    ap (with_interrupts time first) (rested_runs before ps runs)
    ∙ begins_first time first (hardware_looked_at before ps)
    ∙ ap (λ s. execution_looked_at (hardware_looked_at time s)) (began_looked before first ps)
    ∙ ap execution_looked_at (hardware_twice before time (began first ps) later)
    ∙ sym (begins_first time first ps)
