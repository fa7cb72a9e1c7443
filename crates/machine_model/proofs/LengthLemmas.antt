-- How many bytes a tick puts into a channel, and how many a partition is shown in it.
use Rattle.std.proofs.Common.{ℕ, ◌≤◌, Bool, true, false, List, length, Option, None, Some, refl, sym, subst, arith}
use Rattle.std.specs.Prelude.{◌==◌, if◌then◌else◌, slice_get}
use Rattle.guest_bus.specs.Memory.{all_from, is_writable}
use Rattle.xm_conf.specs.Description.{described}
use Rattle.xm_conf.specs.Fits.{Fits, IsChan}
use Rattle.xm_ports.specs.Channels.{Shape}
use Rattle.machine_model.specs.lemmas.EndLemmas.{all_at, its_channel_is, view_channel}
use Rattle.machine_model.specs.Facts.{HasFacts}
use Rattle.machine_model.specs.Laws.{HasLength}
use Rattle.machine_model.specs.Lengths.{PutsAtMost, PutsFewBytes, ShowsAtMost, ShowsFewBytes}
use Rattle.machine_model.specs.Machine.{Machine, SlotTurn, act_of, answer_to, copies, happened, happened_by, local, local_in, local_of, sight, sight_for, sight_in, sight_of_state, system_traffic, taken_by, turn_of, with_room}
use Rattle.machine_model.specs.Observed.{Observation, asks}
use Rattle.machine_model.specs.OwnActs.{IsPutting, IsWithinOwn}
use Rattle.machine_model.specs.Partition.{PartitionState, areas_of, takes_turns}
use Rattle.machine_model.specs.Emission as emission
use Rattle.machine_model.specs.Emission.{Act, OwnPuts, OwnSignals, OwnStill, OwnTakes, Sight, Unseen, Words}
use Rattle.machine_model.specs.Traffic.{puts_at, takes_at, traffic_as, traffic_of}
use Rattle.machine_model.specs.View.{PartitionView, named, view_of}
use Rattle.machine_model.proofs.ObservingLemmas.{answer_has, size_few, size_of}
use Rattle.machine_model.proofs.WithinLemmas.{local_within}
use Rattle.machine_model.proofs.WorkTickLemmas.{have_loads}

-- a message that a partition puts is one for a channel of the configuration
putting_short : (g : Machine) (p q : ℕ) (bytes : List ℕ) → Fits (described g.system.conf) → IsPutting (view_of g.system p) (copies g p) q bytes → length bytes ≤ 4096
unfolding described
putting_short g p q bytes fits putting =
    let its = its_channel_is g.system.conf p putting.on.number putting.on.channel (view_channel g.system p putting.on.number putting.on.channel putting.on.channel_there) in
    let fit : length bytes ≤ its.chan.length = subst (λ (shape : Shape). length bytes ≤ shape.length) (sym its.shape_is) putting.message.fit in
    let most : its.chan.length ≤ 4096 = (all_at IsChan g.system.conf.chans its.number its.chan its.there fits.messages).most in
    omega (arith, fit, most)

-- the traffic of an act
act_short : (g : Machine) (p : ℕ) (act : Act) → Fits (described g.system.conf) → IsWithinOwn (view_of g.system p) (copies g p) act
    → PutsAtMost 4096 (traffic_as g.system.conf p (traffic_of act))
act_short g p emission.Nothing fits within = tt
act_short g p (emission.Trades OwnStill) fits within = tt
act_short g p (emission.Trades (OwnPuts q bytes)) fits within = by (named g.system.conf p q)
  where
    by : (o : Option ℕ) → PutsAtMost 4096 (puts_at o bytes)
    by None = tt
    by (Some c) = putting_short g p q bytes fits within
act_short g p (emission.Trades (OwnTakes q)) fits within = by (named g.system.conf p q)
  where
    by : (o : Option ℕ) → PutsAtMost 4096 (takes_at o)
    by None = tt
    by (Some c) = tt
act_short g p (emission.Trades (OwnSignals number)) fits within = tt
act_short g p (emission.Upon id order) fits within = tt
act_short g p (emission.Plans change) fits within = tt
act_short g p (emission.UponAll event) fits within = tt

-- the traffic of a tick
taken_short : (g : Machine) (p : ℕ) (first : Bool) (o : Option PartitionState) → Fits (described g.system.conf)
    → PutsAtMost 4096 (traffic_as g.system.conf p (traffic_of (act_of (taken_by g p first o))))
unfolding local_of
taken_short g p first None fits = tt
taken_short g p first (Some ps) fits = at (takes_turns ps.state)
  where
    at : (b : Bool) → PutsAtMost 4096 (traffic_as g.system.conf p (traffic_of (act_of (if b then Some (local_of g p first ps) else None))))
    at true = act_short g p (local_of g p first ps).act fits (local_within g.system p ps (copies g p) g.ticks g.time first (sight_of_state g p first ps))
    at false = tt

turn_short : (g : Machine) (o : Option SlotTurn) → Fits (described g.system.conf) → PutsAtMost 4096 (system_traffic g.system.conf o (traffic_of (act_of (local_in g o))))
turn_short g None fits = tt
turn_short g (Some turn) fits = taken_short g turn.part turn.first (slice_get g.parts turn.part) fits

pub puts_few_bytes : PutsFewBytes
unfolding happened happened_by local
puts_few_bytes g fits = turn_short g (turn_of g) fits

-- what each question is answered
of_length : (size : ℕ) (seen : Sight) → size ≤ 24 → HasLength size seen → ShowsAtMost 24 seen
of_length size Unseen few has = tt
of_length size emission.NotKept few has = tt
of_length size (Words bytes) few has = omega (arith, few, has)

roomed : (b : Bool) (seen : Sight) → ShowsAtMost 24 seen → ShowsAtMost 24 (with_room b seen)
roomed b Unseen few = tt
roomed b emission.NotKept few = tt
roomed true (Words bytes) few = few
roomed false (Words bytes) few = tt

asked_short : (g : Machine) (view : PartitionView) (o : Option Observation) → HasFacts g → ShowsAtMost 24 (sight_for g view o)
asked_short g view None facts = tt
asked_short g view (Some call) facts =
    roomed (all_from (is_writable (areas_of view)) call.address call.size) (answer_to g call.question)
    (of_length (size_of call.question) (answer_to g call.question) (size_few call.question) (answer_has g call.question (λ id. have_loads g id (slice_get g.parts id) refl facts)))

-- what a partition is shown
state_short : (g : Machine) (p : ℕ) (first : Bool) (ps : PartitionState) → HasFacts g → ShowsAtMost 24 (sight_of_state g p first ps)
unfolding sight_of_state
state_short g p first ps facts = at (takes_turns ps.state)
  where
    at : (b : Bool) → ShowsAtMost 24 (if b then sight_for g (view_of g.system p) (asks (view_of g.system p) ps g.time first) else Unseen)
    at true = asked_short g (view_of g.system p) (asks (view_of g.system p) ps g.time first) facts
    at false = tt

sight_short : (g : Machine) (p : ℕ) (o : Option SlotTurn) (state : Option PartitionState) → HasFacts g → ShowsAtMost 24 (sight_in g p o state)
sight_short g p None state facts = tt
sight_short g p (Some turn) None facts = tt
sight_short g p (Some turn) (Some ps) facts = at (turn.part == p)
  where
    at : (b : Bool) → ShowsAtMost 24 (if b then sight_of_state g p turn.first ps else Unseen)
    at true = state_short g p turn.first ps facts
    at false = tt

pub shows_few_bytes : ShowsFewBytes
unfolding sight
shows_few_bytes g p facts = sight_short g p (turn_of g) (slice_get g.parts p) facts
