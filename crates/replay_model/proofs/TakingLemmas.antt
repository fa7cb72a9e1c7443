-- Which cues a partition can take in its own slots and in others.
use Rattle.std.proofs.Common.{◌≡◌, ℕ, Bool, true, false, None, Some, refl, sym, ap, ◌∙◌}
use Rattle.std.specs.Prelude.{◌&&◌, if◌then◌else◌}
use Rattle.machine_model.specs.Alone.{Alone, alone_local, alone_local_in}
use Rattle.machine_model.specs.Cue.{Away, Cue, Mine, CueSlot}
use Rattle.machine_model.specs.Health.{Worked}
use Rattle.machine_model.specs.Laws.{part}
use Rattle.machine_model.specs.LocalTick.{bounded, local_tick, seen_outside, worked}
use Rattle.machine_model.specs.Machine.{copies}
use Rattle.machine_model.specs.Observed.{asks}
use Rattle.machine_model.specs.Emission as emission
use Rattle.machine_model.specs.Emission.{Act, OwnTraffic, Sight, WholeEvent}
use Rattle.machine_model.specs.View.{PartitionView, view_of}
use Rattle.machine_model.specs.Whole.{event_of}
use Rattle.span_model.specs.Passes.{part_at}
use Rattle.replay_model.specs.Passes.{part_in}
use Rattle.replay_model.specs.Taking.{asked_in, is_same_event, takes_cue, takes_event, takes_sight, takes_traffic}
use Rattle.replay_model.specs.TakingLaws.{TakesAway, TakesResting, TakesWorking}

-- what holds at all is no further test
and_true : (b : Bool) → (b && true) ≡ b
and_true true = refl
and_true false = refl

-- the tests of a cue, by its fields
abbrev tested_by : PartitionView → Alone → OwnTraffic → CueSlot → Sight → WholeEvent → Bool
tested_by view a traffic mine seen whole =
    takes_traffic view a.copies traffic && takes_sight view (asked_in mine view a) seen && takes_event mine (alone_local_in mine view a seen) whole

tested : (view : PartitionView) (a : Alone) (cue : Cue) → takes_cue view a cue ≡ tested_by view a cue.traffic cue.mine cue.seen cue.whole
unfolding takes_cue alone_local
tested view a cue = refl

pub takes_away : TakesAway
unfolding part
takes_away g p cue away unseen =
    tested (view_of g.system p) (part_in g p) cue
    ∙ ap (λ (mine : CueSlot). tested_by (view_of g.system p) (part_in g p) cue.traffic mine cue.seen cue.whole) away
    ∙ ap (λ (seen : Sight). tested_by (view_of g.system p) (part_in g p) cue.traffic Away seen cue.whole) unseen
    ∙ ap (λ (b : Bool). b && true) (and_true (takes_traffic (view_of g.system p) (copies g p) cue.traffic))
    ∙ and_true (takes_traffic (view_of g.system p) (copies g p) cue.traffic)

-- the rest of the tests, where no other partition does anything to a channel
sight_and_event : (sight event : Bool) → (true && sight && event) ≡ (sight && event)
sight_and_event true event = refl
sight_and_event false event = refl

-- in a slot of its own
in_slot : (view : PartitionView) (a : Alone) (cue : Cue) (first : Bool) → cue.mine ≡ Mine first → cue.traffic ≡ emission.OwnStill
    → takes_cue view a cue ≡ (takes_sight view (asked_in (Mine first) view a) cue.seen && takes_event (Mine first) (alone_local_in (Mine first) view a cue.seen) cue.whole)
in_slot view a cue first own still =
    tested view a cue
    ∙ ap (λ (mine : CueSlot). tested_by view a cue.traffic mine cue.seen cue.whole) own
    ∙ ap (λ (traffic : OwnTraffic). tested_by view a traffic (Mine first) cue.seen cue.whole) still
    ∙ sight_and_event (takes_sight view (asked_in (Mine first) view a) cue.seen) (takes_event (Mine first) (alone_local_in (Mine first) view a cue.seen) cue.whole)

-- what it asks and does there, where it takes no turns and where it does
abbrev slot_tested : PartitionView → Alone → Bool → Sight → WholeEvent → Bool → Bool
slot_tested view a first seen whole turns =
    takes_sight view (if turns then asks view a.state a.time first else None) seen
    && takes_event (Mine first) (if turns then Some (local_tick view a.state a.copies a.ticks a.time first seen) else None) whole

pub takes_resting : TakesResting
unfolding part
takes_resting g p first cue own still rests =
    in_slot (view_of g.system p) (part_in g p) cue first own still
    ∙ ap (slot_tested (view_of g.system p) (part_in g p) first cue.seen cue.whole) rests

-- the act of a local tick is that of the work
act_is : (view : PartitionView) (n : ℕ) (work same : Worked) → work ≡ same → bounded view work.act ≡ work.act → (seen_outside view n same).act ≡ work.act
act_is view n work same is bounds = ap (λ (w : Worked). bounded view w.act) (sym is) ∙ bounds

pub takes_working : TakesWorking
unfolding part local_tick
takes_working g p first cue work own still turns is bounds =
    in_slot (view_of g.system p) (part_in g p) cue first own still
    ∙ ap (slot_tested (view_of g.system p) (part_in g p) first cue.seen cue.whole) turns
    ∙ ap (λ (act : Act). takes_sight (view_of g.system p) (asks (view_of g.system p) (part_at p g) g.time first) cue.seen && is_same_event (event_of act) cue.whole)
    (act_is (view_of g.system p) g.ticks work (worked (view_of g.system p) (copies g p) g.time first cue.seen (part_at p g)) is bounds)
