-- What the passes of a tick in isolation leave of a partition's part is its tick alone.
use Rattle.std.proofs.Common.{◌≡◌, ℕ, ◌<◌, Bool, true, false, List, [], ◌∷◌, ◌++◌, length, map, Option, None, Some, refl, sym, ap, ◌∙◌, subst}
use Rattle.std.specs.Prelude.{if◌then◌else◌, slice_index_or}
use Rattle.std.specs.List.{flat_map}
use Rattle.std.proofs.lemmas.List.{append-nil, length-set}
use Rattle.xm_base.specs.Options.{on}
use Rattle.xm_base.specs.declared.partition.Order.{Order}
use Rattle.xm_ports.specs.Channels.{Content}
use Rattle.xm_report.specs.Report.{ReportLine}
use Rattle.machine_model.specs.Alone.{Alone, alone_after, alone_lines_of, alone_local, alone_local_in, alone_step, alone_step_lines, alone_step_said}
use Rattle.machine_model.specs.Cue.{Away, Cue, Mine, CueSlot}
use Rattle.machine_model.specs.Health.{Worked}
use Rattle.machine_model.specs.Laws.{part}
use Rattle.machine_model.specs.Lines.{local_said}
use Rattle.machine_model.specs.LocalTick.{LocalTick, bounded, has_name, local_tick, said_in, seen_outside, worked}
use Rattle.machine_model.specs.Machine.{Machine, after_tick, copies, obeyed, obeyed_emissions}
use Rattle.machine_model.specs.Partition.{PartitionState, rested, takes_turns}
use Rattle.machine_model.specs.Emission as emission
use Rattle.machine_model.specs.Emission.{Act, OwnPuts, OwnSignals, OwnStill, OwnTakes, OwnTraffic, Sight, Emission, line_of}
use Rattle.machine_model.specs.Traffic.{copies_after, heard_of_own, hearing, traffic_of}
use Rattle.machine_model.specs.View.{PartitionView, System, named, view_of}
use Rattle.machine_model.specs.Whole.{NoEvent, WholeEvent, after_event, content_after, event_lines, event_of, ticks_after, time_after}
use Rattle.span_model.specs.Passes.{part_at, traded, traffic_in, with_part}
use Rattle.replay_model.specs.Laws.{AwayTicks, IsOwnChannel, RestingTicksAlone, WorkingTicks}
use Rattle.replay_model.specs.Passes.{away_passed, event_met, obeyed_by, part_in, rested_in, tick_past, traffic_received, work_passed}
use Rattle.replay_model.proofs.CopyLemmas.{its_channel, still_kept}
use Rattle.replay_model.proofs.PartLemmas.{alone_of, met_length, part_is, part_met, part_past, part_put, part_received, part_traded, emitted_alike, received_length, received_system, traded_length, traded_system}

-- a partition's view has its number
view_id : (g : Machine) (p : ℕ) → (view_of g.system p).id ≡ p
unfolding view_of
view_id g p = refl

-- states of machines read off a part
state_of : (g : Machine) (p : ℕ) (s : PartitionState) (contents : List (Option Content)) (n t : ℕ) → part_in g p ≡ alone_of s contents n t → part_at p g ≡ s
state_of g p s contents n t is = ap (λ (a : Alone). a.state) (sym (part_is g p) ∙ is)

copies_are : (g : Machine) (p : ℕ) (s : PartitionState) (contents : List (Option Content)) (n t : ℕ) → part_in g p ≡ alone_of s contents n t → copies g p ≡ contents
copies_are g p s contents n t is = ap (λ (a : Alone). a.copies) (sym (part_is g p) ∙ is)

ticks_are : (g : Machine) (p : ℕ) (s : PartitionState) (contents : List (Option Content)) (n t : ℕ) → part_in g p ≡ alone_of s contents n t → g.ticks ≡ n
ticks_are g p s contents n t is = ap (λ (a : Alone). a.ticks) (sym (part_is g p) ∙ is)

time_is : (g : Machine) (p : ℕ) (s : PartitionState) (contents : List (Option Content)) (n t : ℕ) → part_in g p ≡ alone_of s contents n t → g.time ≡ t
time_is g p s contents n t is = ap (λ (a : Alone). a.time) (sym (part_is g p) ∙ is)

-- parts that are alike
same_alone : (s u : PartitionState) (a b : List (Option Content)) (n m t x : ℕ) → s ≡ u → a ≡ b → n ≡ m → t ≡ x → alone_of s a n t ≡ alone_of u b m x
same_alone s u a b n m t x same_state same_copies same_ticks same_time = rw (same_state, same_copies, same_ticks, same_time) refl

-- an order that is obeyed
then_obeyed : (g : Machine) (p : ℕ) (order : Option Order) (s : PartitionState) (contents : List (Option Content)) (n t : ℕ) (view : PartitionView) → p < length g.parts → view_of g.system p ≡ view
    → part_in g p ≡ alone_of s contents n t → part_in (with_part p (obeyed (view_of g.system p) order (part_at p g)) g) p ≡ alone_of (obeyed view order s) contents n t
then_obeyed g p order s contents n t view below sees is =
    part_put p (obeyed (view_of g.system p) order (part_at p g)) g below
    ∙ same_alone (obeyed (view_of g.system p) order (part_at p g)) (obeyed view order s) (copies g p) contents g.ticks n g.time t
    (ap (λ (v : PartitionView). obeyed v order (part_at p g)) sees ∙ ap (obeyed view order) (state_of g p s contents n t is))
    (copies_are g p s contents n t is) (ticks_are g p s contents n t is) (time_is g p s contents n t is)

-- a hypervisor event that is met
then_met : (g : Machine) (p : ℕ) (e : WholeEvent) (s : PartitionState) (contents : List (Option Content)) (n t : ℕ) (view : PartitionView) → p < length g.parts → view_of g.system p ≡ view
    → part_in g p ≡ alone_of s contents n t → part_in (event_met p e g) p ≡ alone_of (after_event view e s) (map (on (content_after e)) contents) n t
then_met g p e s contents n t view below sees is =
    part_met g p e below
    ∙ same_alone (after_event (view_of g.system p) e (part_at p g)) (after_event view e s) (map (on (content_after e)) (copies g p)) (map (on (content_after e)) contents) g.ticks n g.time t
    (ap (λ (v : PartitionView). after_event v e (part_at p g)) sees ∙ ap (after_event view e) (state_of g p s contents n t is))
    (ap (map (on (content_after e))) (copies_are g p s contents n t is)) (ticks_are g p s contents n t is) (time_is g p s contents n t is)

-- a rest
then_rested : (g : Machine) (p : ℕ) (s : PartitionState) (contents : List (Option Content)) (n t : ℕ) → p < length g.parts
    → part_in g p ≡ alone_of s contents n t → part_in (rested_in p g) p ≡ alone_of (rested t s) contents n t
then_rested g p s contents n t below is =
    part_put p (rested g.time (part_at p g)) g below
    ∙ same_alone (rested g.time (part_at p g)) (rested t s) (copies g p) contents g.ticks n g.time t
    (ap (λ (time : ℕ). rested time (part_at p g)) (time_is g p s contents n t is) ∙ ap (rested t) (state_of g p s contents n t is))
    (copies_are g p s contents n t is) (ticks_are g p s contents n t is) (time_is g p s contents n t is)

-- the clocks past the tick
then_past : (g : Machine) (p : ℕ) (e : WholeEvent) (s : PartitionState) (contents : List (Option Content)) (n t : ℕ)
    → part_in g p ≡ alone_of s contents n t → part_in (tick_past e g) p ≡ alone_of s contents (ticks_after e n) (time_after e t)
then_past g p e s contents n t is =
    part_past g p e
    ∙ same_alone (part_at p g) s (copies g p) contents (ticks_after e g.ticks) (ticks_after e n) (time_after e g.time) (time_after e t)
    (state_of g p s contents n t is) (copies_are g p s contents n t is) (ap (ticks_after e) (ticks_are g p s contents n t is)) (ap (time_after e) (time_is g p s contents n t is))

-- without a local tick
abbrev rested_alone : PartitionView → Alone → OwnTraffic → Option Order → WholeEvent → Alone
rested_alone view a own order e =
    alone_of (rested a.time (after_event view e (obeyed view order (hearing view own a.state)))) (map (on (content_after e)) (copies_after a.time own a.copies)) (ticks_after e a.ticks) (time_after e a.time)

step_rests : (view : PartitionView) (a : Alone) (cue : Cue) → alone_local view a cue ≡ None → alone_step view a cue ≡ rested_alone view a cue.traffic cue.order cue.whole
unfolding alone_step alone_after after_tick
step_rests view a cue none = ap (alone_after view a cue) none

away_local : (view : PartitionView) (a : Alone) (cue : Cue) → cue.mine ≡ Away → alone_local view a cue ≡ None
unfolding alone_local
away_local view a cue away = ap (λ (mine : CueSlot). alone_local_in mine view a cue.seen) away

resting_local : (view : PartitionView) (a : Alone) (cue : Cue) (first : Bool) → cue.mine ≡ Mine first → takes_turns a.state.state ≡ false → alone_local view a cue ≡ None
unfolding alone_local
resting_local view a cue first own rests =
    ap (λ (mine : CueSlot). alone_local_in mine view a cue.seen) own
    ∙ ap (λ (b : Bool). if b then Some (local_tick view a.state a.copies a.ticks a.time first cue.seen) else None) rests

-- the lines and the console bytes of a tick without a local one
rests_lines : (view : PartitionView) (a : Alone) (cue : Cue) → alone_local view a cue ≡ None
    → alone_step_lines view a cue ≡ map (line_of a.ticks view.id) (obeyed_emissions cue.order a.state) ++ event_lines a.ticks cue.whole view.id
unfolding alone_step_lines alone_lines_of
rests_lines view a cue none = ap (alone_lines_of view a cue) none

rests_said : (view : PartitionView) (a : Alone) (cue : Cue) → alone_local view a cue ≡ None → alone_step_said view a cue ≡ []
unfolding alone_step_said
rests_said view a cue none = ap local_said none

-- a tick in the slot of another partition, or in a gap
away_part : (g : Machine) (p : ℕ) (cue : Cue) → p < length g.parts → IsOwnChannel g.system.conf p cue.traffic
    → part_in (away_passed p cue g) p ≡ rested_alone (view_of g.system p) (part_in g p) cue.traffic cue.order cue.whole
unfolding part
away_part g p cue below called =
    let view : PartitionView = view_of g.system p in
    let g1 : Machine = traffic_received p cue.traffic g in
    let g2 : Machine = obeyed_by p cue g1 in
    let g3 : Machine = event_met p cue.whole g2 in
    let g4 : Machine = rested_in p g3 in
    let sees1 : view_of g1.system p ≡ view = ap (λ (s : System). view_of s p) (received_system p cue.traffic g) in
    let below1 : p < length g1.parts = subst (λ (n : ℕ). p < n) (sym (received_length p cue.traffic g)) below in
    let below2 : p < length g2.parts = subst (λ (n : ℕ). p < n) (sym (length-set g1.parts p (obeyed (view_of g1.system p) cue.order (part_at p g1)))) below1 in
    let below3 : p < length g3.parts = subst (λ (n : ℕ). p < n) (sym (met_length p cue.whole g2)) below2 in
    let is1 = part_received g p cue.traffic below called in
    let is2 = then_obeyed g1 p cue.order _ _ _ _ view below1 sees1 is1 in
    let is3 = then_met g2 p cue.whole _ _ _ _ view below2 sees1 is2 in
    let is4 = then_rested g3 p _ _ _ _ below3 is3 in
    then_past g4 p cue.whole _ _ _ _ is4

away_received : (g : Machine) (p : ℕ) (cue : Cue) → p < length g.parts → IsOwnChannel g.system.conf p cue.traffic
    → obeyed_emissions cue.order (part_at p g) ≡ obeyed_emissions cue.order (part_at p (traffic_received p cue.traffic g))
away_received g p cue below called =
    sym (ap (obeyed_emissions cue.order) (state_of (traffic_received p cue.traffic g) p _ _ _ _ (part_received g p cue.traffic below called)) ∙ emitted_alike (view_of g.system p) cue.traffic cue.order (part_at p g))

pub away_ticks : AwayTicks
unfolding part
away_ticks g p cue below away called =
    let none = away_local (view_of g.system p) (part_in g p) cue away in
    record {
      part = away_part g p cue below called ∙ sym (step_rests (view_of g.system p) (part_in g p) cue none);
      lines = rests_lines (view_of g.system p) (part_in g p) cue none
          ∙ ap (λ (q : ℕ). map (line_of g.ticks q) (obeyed_emissions cue.order (part_at p g)) ++ event_lines g.ticks cue.whole q) (view_id g p)
          ∙ ap (λ (tale : List Emission). map (line_of g.ticks p) tale ++ event_lines g.ticks cue.whole p) (away_received g p cue below called);
      said = rests_said (view_of g.system p) (part_in g p) cue none;
    }

-- a tick in a slot of a partition that takes no turns
resting_part : (g : Machine) (p : ℕ) → p < length g.parts
    → part_in (tick_past NoEvent (rested_in p g)) p ≡ rested_alone (view_of g.system p) (part_in g p) OwnStill None NoEvent
unfolding part
resting_part g p below =
    then_past (rested_in p g) p NoEvent _ _ _ _ (then_rested g p (part_at p g) (copies g p) g.ticks g.time below (part_is g p))
    ∙ ap (λ (contents : List (Option Content)). alone_of (rested g.time (part_at p g)) contents (ticks_after NoEvent g.ticks) (time_after NoEvent g.time))
    (sym (ap (map (on (content_after NoEvent))) (still_kept (copies g p) g.time) ∙ event_none (copies g p)))
  where
    event_none : (contents : List (Option Content)) → map (on (content_after NoEvent)) contents ≡ contents
    event_none [] = refl
    event_none (None ∷ contents) = rw (event_none contents) refl
    event_none (Some x ∷ contents) = rw (event_none contents) refl

pub resting_ticks : RestingTicksAlone
unfolding part
resting_ticks g p first cue below own still unordered quiet rests =
    let none = resting_local (view_of g.system p) (part_in g p) cue first own rests in
    record {
      part = resting_part g p below ∙ sym (step_rests (view_of g.system p) (part_in g p) cue none ∙ rw (still, unordered, quiet) refl);
      lines = rests_lines (view_of g.system p) (part_in g p) cue none ∙ rw (unordered, quiet) refl;
      said = rests_said (view_of g.system p) (part_in g p) cue none;
    }

-- with a local tick
abbrev worked_alone : PartitionView → Alone → LocalTick → WholeEvent → Alone
worked_alone view a tick e =
    alone_of (after_event view e (hearing view (heard_of_own (traffic_of tick.act)) tick.after))
    (map (on (content_after e)) (copies_after a.time (heard_of_own (traffic_of tick.act)) a.copies)) (ticks_after e a.ticks) (time_after e a.time)

step_works : (view : PartitionView) (a : Alone) (cue : Cue) (tick : LocalTick) → alone_local view a cue ≡ Some tick → cue.order ≡ None → alone_step view a cue ≡ worked_alone view a tick cue.whole
unfolding alone_step alone_after after_tick
step_works view a cue tick is unordered = ap (alone_after view a cue) is ∙ rw (unordered) refl

turning_local : (view : PartitionView) (a : Alone) (cue : Cue) (first : Bool) → cue.mine ≡ Mine first → takes_turns a.state.state ≡ true
    → alone_local view a cue ≡ Some (local_tick view a.state a.copies a.ticks a.time first cue.seen)
unfolding alone_local
turning_local view a cue first own turns =
    ap (λ (mine : CueSlot). alone_local_in mine view a cue.seen) own
    ∙ ap (λ (b : Bool). if b then Some (local_tick view a.state a.copies a.ticks a.time first cue.seen) else None) turns

-- the local tick of a partition that did this work
abbrev tick_by : PartitionView → ℕ → Worked → LocalTick
tick_by view n w = record { after = w.after; lines = map (line_of n view.id) w.emitted; said = flat_map said_in w.emitted; act = w.act }

tick_is : (view : PartitionView) (ps : PartitionState) (contents : List (Option Content)) (n time : ℕ) (first : Bool) (seen : Sight) (work : Worked)
    → work ≡ worked view contents time first seen ps → bounded view work.act ≡ work.act → local_tick view ps contents n time first seen ≡ tick_by view n work
unfolding local_tick
tick_is view ps contents n time first seen work is bounds =
    ap (seen_outside view n) (sym is) ∙ ap (λ (act : Act). record { after = work.after; lines = map (line_of n view.id) work.emitted; said = flat_map said_in work.emitted; act = act }) bounds

-- what a partition's own message is on is a channel that it has
called_if : (g : Machine) (p : ℕ) (act : Act) → bounded (view_of g.system p) act ≡ act → IsOwnChannel g.system.conf p (traffic_of act)
called_if g p emission.Nothing is = tt
called_if g p (emission.Trades OwnStill) is = tt
called_if g p (emission.Trades (OwnPuts q bytes)) is = at (has_name (slice_index_or (view_of g.system p).channels q None) q) refl is
  where
    at : (b : Bool) → has_name (slice_index_or (view_of g.system p).channels q None) q ≡ b → (if b then emission.Trades (OwnPuts q bytes) else emission.Nothing) ≡ emission.Trades (OwnPuts q bytes)
        → (c : ℕ) × (named g.system.conf p q ≡ Some c)
    at true has same = its_channel g p q has
    at false has same = absurd cc
called_if g p (emission.Trades (OwnTakes q)) is = tt
called_if g p (emission.Trades (OwnSignals number)) is = tt
called_if g p (emission.Upon id order) is = tt
called_if g p (emission.Plans change) is = tt
called_if g p (emission.UponAll event) is = tt

-- a tick in which the partition takes its turn
working_part : (g : Machine) (p : ℕ) (work : Worked) → p < length g.parts → bounded (view_of g.system p) work.act ≡ work.act
    → part_in (work_passed p work g) p ≡ worked_alone (view_of g.system p) (part_in g p) (tick_by (view_of g.system p) g.ticks work) (event_of work.act)
unfolding part
working_part g p work below bounds =
    let view : PartitionView = view_of g.system p in
    let e : WholeEvent = event_of work.act in
    let own = traffic_of work.act in
    let t = traffic_in g p work.act in
    let g1 : Machine = with_part p work.after g in
    let g2 : Machine = traded t g1 in
    let g3 : Machine = event_met p e g2 in
    let below1 : p < length g1.parts = subst (λ (n : ℕ). p < n) (sym (length-set g.parts p work.after)) below in
    let below2 : p < length g2.parts = subst (λ (n : ℕ). p < n) (sym (traded_length t g1)) below1 in
    let sees2 : view_of g2.system p ≡ view = ap (λ (s : System). view_of s p) (traded_system t g1) in
    let is1 = part_put p work.after g below in
    let is2 = part_traded g1 p own below1 (called_if g p work.act bounds) ∙ traded_so g1 p (heard_of_own own) view work.after (copies g p) g.ticks g.time is1 in
    let is3 = then_met g2 p e _ _ _ _ view below2 sees2 is2 in
    then_past g3 p e _ _ _ _ is3
  where
    traded_so : (m : Machine) (q : ℕ) (own : OwnTraffic) (view : PartitionView) (s : PartitionState) (contents : List (Option Content)) (n t : ℕ) → part_in m q ≡ alone_of s contents n t
        → alone_of (hearing view own (part_at q m)) (copies_after m.time own (copies m q)) m.ticks m.time ≡ alone_of (hearing view own s) (copies_after t own contents) n t
    traded_so m q own view s contents n t is =
        same_alone (hearing view own (part_at q m)) (hearing view own s) (copies_after m.time own (copies m q)) (copies_after t own contents) m.ticks n m.time t
        (ap (hearing view own) (state_of m q s contents n t is))
        (ap (λ (time : ℕ). copies_after time own (copies m q)) (time_is m q s contents n t is) ∙ ap (copies_after t own) (copies_are m q s contents n t is))
        (ticks_are m q s contents n t is) (time_is m q s contents n t is)

works_lines : (view : PartitionView) (a : Alone) (cue : Cue) (tick : LocalTick) → alone_local view a cue ≡ Some tick → cue.order ≡ None
    → alone_step_lines view a cue ≡ tick.lines ++ event_lines a.ticks cue.whole view.id
unfolding alone_step_lines alone_lines_of
works_lines view a cue tick is unordered =
    ap (alone_lines_of view a cue) is
    ∙ ap (λ (o : Option Order). tick.lines ++ map (line_of a.ticks view.id) (obeyed_emissions o tick.after) ++ event_lines a.ticks cue.whole view.id) unordered
    ∙ ap (λ (lines : List ReportLine). lines ++ event_lines a.ticks cue.whole view.id) (append-nil tick.lines)

works_said : (view : PartitionView) (a : Alone) (cue : Cue) (tick : LocalTick) → alone_local view a cue ≡ Some tick → alone_step_said view a cue ≡ tick.said
unfolding alone_step_said
works_said view a cue tick is = ap local_said is

pub working_ticks : WorkingTicks
unfolding part
working_ticks g p first cue work below own unordered event turns is bounds =
    let view : PartitionView = view_of g.system p in
    let tick = turning_local view (part_in g p) cue first own turns
    ∙ ap Some (tick_is view (part_at p g) (copies g p) g.ticks g.time first cue.seen work is bounds) in
    record {
      part = working_part g p work below bounds
          ∙ ap (λ (e : WholeEvent). worked_alone view (part_in g p) (tick_by view g.ticks work) e) (sym event)
          ∙ sym (step_works view (part_in g p) cue (tick_by view g.ticks work) tick unordered);
      lines = works_lines view (part_in g p) cue (tick_by view g.ticks work) tick unordered
          ∙ ap (λ (q : ℕ). map (line_of g.ticks q) work.emitted ++ event_lines g.ticks cue.whole q) (view_id g p);
      said = works_said view (part_in g p) cue (tick_by view g.ticks work) tick;
    }
