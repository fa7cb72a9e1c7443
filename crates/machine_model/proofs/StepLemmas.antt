-- One tick of the machine is, for each partition, one tick of that partition alone.
use Rattle.std.proofs.Common.{◌≡◌, ℕ, Bool, true, false, List, length, map, Option, None, Some, refl, sym, ap, ◌∙◌}
use Rattle.std.specs.Prelude.{slice_get, ◌==◌, if◌then◌else◌, is_some}
use Rattle.std.proofs.lemmas.Bool.{eqb-true}
use Rattle.std.proofs.lemmas.Option.{same_Some}
use Rattle.xm_base.specs.Options.{on}
use Rattle.xm_ports.specs.Channels.{Content}
use Rattle.machine_model.specs.lemmas.TickLemmas.{step_runs}
use Rattle.machine_model.specs.Alone.{Alone, alone_after, alone_step, alone_traffic}
use Rattle.machine_model.specs.Cue.{cue, cue_in, unless_own}
use Rattle.machine_model.specs.Laws.{part, alone_part_at}
use Rattle.machine_model.specs.LocalTick.{LocalTick, bounded, local_tick, worked}
use Rattle.machine_model.specs.Machine.{Machine, SlotTurn, act_of, after, after_tick, channel_after, copies, happened, happened_by, if_its_turn, is_turn_of, local, local_in, local_of, order_upon, part_after, sight_of_state, step, system_traffic, taken_by, tick_of, turn_of, worked_in}
use Rattle.machine_model.specs.Partition.{PartitionState, takes_turns}
use Rattle.machine_model.specs.Emission.{Act}
use Rattle.machine_model.specs.Traffic.{copies_after, copies_of, heard_as, heard_of_own, traffic_of}
use Rattle.machine_model.specs.View.{part_of, view_of}
use Rattle.machine_model.specs.Whole.{content_after, ticks_after, time_after}
use Rattle.machine_model.specs.lemmas.AloneLemmas.{alone_local_is}
use Rattle.machine_model.specs.lemmas.ListLemmas.{get_each}
use Rattle.machine_model.proofs.TrafficLemmas.{copies_same, own_traffic}

-- the act of a local tick is one that its partition may do
acts : (g : Machine) (p : ℕ) (first : Bool) (o : Option PartitionState) (tick : LocalTick) → taken_by g p first o ≡ Some tick
    → (act : Act) × (tick.act ≡ bounded (view_of g.system p) act)
unfolding local_of local_tick
acts g p first None tick is = absurd cc
acts g p first (Some ps) tick is = at (takes_turns ps.state) is
  where
    at : (b : Bool) → (if b then Some (local_of g p first ps) else None) ≡ Some tick → (act : Act) × (tick.act ≡ bounded (view_of g.system p) act)
    at true is = (
      (worked (view_of g.system p) (copies g p) g.time first (sight_of_state g p first ps) ps).act,
      ap (λ t. t.act) (sym (same_Some (local_of g p first ps) tick is)),
    )
    at false is = absurd cc

-- a partition's own traffic, under the system's numbers, is under its own names what it hears of it
own_same : (g : Machine) (p : ℕ) (o : Option SlotTurn) (tick : LocalTick) → is_turn_of o p ≡ true → local_in g o ≡ Some tick
    → heard_as g.system.conf p (system_traffic g.system.conf o (traffic_of tick.act)) ≡ heard_of_own (traffic_of tick.act)
own_same g p None tick its is = absurd cc
own_same g p (Some turn) tick its is =
    let same : turn.part ≡ p = eqb-true turn.part p its in
    let its_own : taken_by g p turn.first (slice_get g.parts p) ≡ Some tick = ap (λ q. taken_by g q turn.first (slice_get g.parts q)) (sym same) ∙ is in
    let found = acts g p turn.first (slice_get g.parts p) tick its_own in
    rw (same, found.1) (own_traffic g.system p found.0)

-- the traffic of a tick as partition p meets it: its own where it had its local tick, else what it receives of others
traffic_in : (g : Machine) (p : ℕ) (o : Option SlotTurn) (b : Bool) (l : Option LocalTick) → is_turn_of o p ≡ b → local_in g o ≡ l
    → heard_as g.system.conf p (system_traffic g.system.conf o (traffic_of (act_of l)))
    ≡ alone_traffic (if_its_turn b l) (unless_own (is_some (if_its_turn b l)) (heard_as g.system.conf p (system_traffic g.system.conf o (traffic_of (act_of l)))))
traffic_in g p o true None its is = refl
traffic_in g p o true (Some tick) its is = own_same g p o tick its is
traffic_in g p o false l its is = refl

pub traffic_is : (g : Machine) (p : ℕ)
    → heard_as g.system.conf p (happened g).traffic ≡ alone_traffic (tick_of (happened g) p) (cue g p).traffic
unfolding cue cue_in tick_of happened happened_by local
traffic_is g p = traffic_in g p (turn_of g) (is_turn_of (turn_of g) p) (local_in g (turn_of g)) refl refl

-- a partition after a tick of the machine, and after a tick alone
state_same : (g : Machine) (p : ℕ) (ps : PartitionState)
    → part_after g (happened g) p ps ≡ (alone_after (view_of g.system p) (part g p ps) (cue g p) (tick_of (happened g) p)).state
unfolding part_after alone_after part cue cue_in
state_same g p ps =
    ap (λ traffic. after_tick (view_of g.system p) g.time (is_some (tick_of (happened g) p)) traffic (order_upon (happened g).act p) (happened g).event (worked_in (tick_of (happened g) p) ps)) (traffic_is g p)

-- its copies of channels after a tick of the machine, and after a tick alone
copies_alike : (g : Machine) (p : ℕ) (ps : PartitionState)
    → copies (after g (happened g)) p ≡ (alone_after (view_of g.system p) (part g p ps) (cue g p) (tick_of (happened g) p)).copies
unfolding after channel_after copies alone_after part cue cue_in
copies_alike g p ps =
    copies_same g.system.conf p (length (part_of g.system.conf p).ports) g.time (happened g).event (happened g).traffic g.channels
    ∙ ap (λ traffic. map (on (content_after (happened g).event)) (copies_after g.time traffic (copies_of g.system.conf p (length (part_of g.system.conf p).ports) g.channels))) (traffic_is g p)

-- one partition alone, of its parts
abbrev alone_of : PartitionState → List (Option Content) → ℕ → ℕ → Alone
alone_of state contents ticks time = record { state = state; copies = contents; ticks = ticks; time = time }

-- a partition's part of the machine after a tick, and the partition after a tick alone
after_same : (g : Machine) (p : ℕ) (ps : PartitionState)
    → part (after g (happened g)) p (part_after g (happened g) p ps) ≡ alone_after (view_of g.system p) (part g p ps) (cue g p) (tick_of (happened g) p)
unfolding part after alone_after cue cue_in
after_same g p ps =
    ap (λ s. alone_of s (copies (after g (happened g)) p) (ticks_after (happened g).event g.ticks) (time_after (happened g).event g.time)) (state_same g p ps)
    ∙ ap (λ c. alone_of (alone_after (view_of g.system p) (part g p ps) (cue g p) (tick_of (happened g) p)).state c (ticks_after (happened g).event g.ticks) (time_after (happened g).event g.time)) (copies_alike g p ps)

-- a partition that is there, after a tick
after_at : (g : Machine) (p : ℕ) (ps : PartitionState) → slice_get g.parts p ≡ Some ps
    → alone_part_at (after g (happened g)) p ≡ Some (part (after g (happened g)) p (part_after g (happened g) p ps))
unfolding alone_part_at after
after_at g p ps there = ap (on (part (after g (happened g)) p)) (get_each (part_after g (happened g)) g.parts p ∙ ap (on (part_after g (happened g) p)) there)

pub tick_state : (g : Machine) (p : ℕ) (ps : PartitionState) → g.halted ≡ false → slice_get g.parts p ≡ Some ps
    → alone_part_at (step g) p ≡ Some (alone_step (view_of g.system p) (part g p ps) (cue g p))
unfolding alone_step
tick_state g p ps runs there =
    ap (λ m. alone_part_at m p) (step_runs g runs) ∙ after_at g p ps there ∙ ap Some (after_same g p ps)
    ∙ ap (λ tick. Some (alone_after (view_of g.system p) (part g p ps) (cue g p) tick)) (sym (alone_local_is g p ps there))
