-- One tick of the machine, pass by pass.
use Rattle.std.proofs.Common.{◌≡◌, ℕ, ◌+◌, ◌<◌, ◌≤◌, Bool, true, false, List, ◌++◌, length, map, Option, None, Some, refl, sym, ap, ◌∙◌}
use Rattle.std.specs.Prelude.{◌==◌, if◌then◌else◌, IfSome, is_some, slice_index_or, slice_set}
use Rattle.std.proofs.lemmas.Bool.{eq-eqb, ne_eqb}
use Rattle.std.proofs.lemmas.List.{length-set}
use Rattle.xm_ports.specs.Channels.{Content, cleared}
use Rattle.xm_report.specs.Report.{ReportLine}
use Rattle.machine_model.specs.Health.{Worked}
use Rattle.machine_model.specs.Lines.{lines_of, order_lines, plan_lines}
use Rattle.machine_model.specs.Lists.{all_of, each, is_number}
use Rattle.machine_model.specs.LocalTick.{LocalTick, bounded, seen_outside}
use Rattle.machine_model.specs.Machine.{Happened, Machine, SlotTurn, after, after_tick, booted_part, channel_after, clock_after, happened, happened_by, if_its_turn, is_halt, local, next_clock, obeyed, obeyed_emissions, order_for, order_upon, part_after, rested_unless, run, tick_of, turn_of, worked_in}
use Rattle.machine_model.specs.Partition.{PartitionState, ordered, reset, rested, resets_after}
use Rattle.machine_model.specs.Emission.{Act, Directed, line_of, reach_of}
use Rattle.machine_model.specs.Traffic.{Puts, Signals, Still, Takes, Traffic, after_traffic, heard_as, hearing, traffic_as, traffic_of}
use Rattle.machine_model.specs.View.{view_of}
use Rattle.machine_model.specs.Whole.{AllHalted, AllReset, NoEvent, WholeEvent, after_event, content_after, event_lines, event_of, ticks_after, time_after, whole_lines, whole_resets_after}
use Rattle.span_model.specs.PassLaws.{AllRest, IsInPasses, OthersRest, OthersRestLater, PassedNext, TickInPasses}
use Rattle.span_model.specs.Passes.{evented, obeyed_in, obeyed_lines, rest_but, tick_ended, traded, traffic_in, with_part, with_traffic, worked_lines, worked_through}
use Rattle.span_model.proofs.ListLemmas.{each_same, none_of}
use Rattle.span_model.proofs.NextLemmas.{view_id}
use Rattle.span_model.proofs.PassLemmas.{all_after_each, all_alike, all_one, each_alike, each_five, each_map, each_one, each_set, each_twice, map_each, map_same, set_each_but}
use Rattle.span_model.proofs.RestLemmas.{rested_twice}

-- the machine after orders, each partition by its own
abbrev with_orders : Option Directed → Machine → Machine
with_orders directed g = record g { parts = each (λ q ps. obeyed (view_of g.system q) (order_for directed q) ps) g.parts }

-- the machine after a hypervisor event, each partition and channel by itself
abbrev with_event : WholeEvent → Machine → Machine
with_event event g = record g {
  parts = each (λ q ps. after_event (view_of g.system q) event ps) g.parts;
  channels = map (content_after event) g.channels;
  resets = whole_resets_after event g.resets;
  halted = is_halt event;
}

-- traffic is a pass, also where there is none
traded_is : (traffic : Traffic) (g : Machine) → traded traffic g ≡ with_traffic traffic g
traded_is Still g =
    ap (λ (parts : List PartitionState). record g { parts = parts })
    (sym (each_same (λ q ps. hearing (view_of g.system q) (heard_as g.system.conf q Still) ps) g.parts (λ k ps there. refl)))
    ∙ ap (λ (channels : List Content). record g {
      parts = each (λ q ps. hearing (view_of g.system q) (heard_as g.system.conf q Still) ps) g.parts;
      channels = channels;
    })
    (sym (each_same (after_traffic g.time Still) g.channels (λ k content there. refl)))
traded_is (Puts channel bytes) g = refl
traded_is (Takes channel) g = refl
traded_is (Signals source number) g = refl

-- so is an order
obeyed_is : (directed : Option Directed) (g : Machine) → obeyed_in directed g ≡ with_orders directed g
obeyed_is None g =
    ap (λ (parts : List PartitionState). record g { parts = parts })
    (sym (each_same (λ q ps. obeyed (view_of g.system q) (order_for None q) ps) g.parts (λ k ps there. refl)))
obeyed_is (Some directed) g =
    ap (λ (parts : List PartitionState). record g { parts = parts })
    (sym (each_one (λ q ps. obeyed (view_of g.system q) (order_for (Some directed) q) ps) (ordered (view_of g.system directed.id) directed.order)
    (booted_part g.system directed.id) g.parts directed.id
    (λ k ps apart. ap (λ (b : Bool). obeyed (view_of g.system k) (if b then Some directed.order else None) ps) (ne_eqb directed.id k (λ e. apart (sym e))))
    (λ ps. ap (λ (b : Bool). obeyed (view_of g.system directed.id) (if b then Some directed.order else None) ps) (eq-eqb directed.id directed.id refl))))

-- and a hypervisor event
evented_is : (event : WholeEvent) (g : Machine) → g.halted ≡ false → evented event g ≡ with_event event g
evented_is NoEvent g runs =
    ap (λ (halted : Bool). record g { halted = halted }) runs
    ∙ ap (λ (parts : List PartitionState). record g { parts = parts; halted = false })
    (sym (each_same (λ q ps. after_event (view_of g.system q) NoEvent ps) g.parts (λ k ps there. refl)))
    ∙ ap (λ (channels : List Content). record g {
      parts = each (λ q ps. after_event (view_of g.system q) NoEvent ps) g.parts;
      channels = channels;
      halted = false;
    })
    (sym (map_same (content_after NoEvent) g.channels (λ k content there. refl)))
evented_is (AllReset mode) g runs =
    ap (λ (halted : Bool). record g {
      parts = each (λ q ps. reset (view_of g.system q) mode 0 ps) g.parts;
      channels = map cleared g.channels;
      resets = resets_after mode g.resets;
      halted = halted;
    }) runs
evented_is AllHalted g runs =
    ap (λ (parts : List PartitionState). record g { parts = parts; halted = true })
    (sym (each_same (λ q ps. after_event (view_of g.system q) AllHalted ps) g.parts (λ k ps there. refl)))
    ∙ ap (λ (channels : List Content). record g {
      parts = each (λ q ps. after_event (view_of g.system q) AllHalted ps) g.parts;
      channels = channels;
      halted = true;
    })
    (sym (map_same (content_after AllHalted) g.channels (λ k content there. refl)))

-- the passes, each over all partitions and channels
passes_are : (traffic : Traffic) (directed : Option Directed) (event : WholeEvent) (time : ℕ) (p : ℕ) (g : Machine) → g.halted ≡ false
    → rest_but (Some p) time (evented event (obeyed_in directed (traded traffic g))) ≡ rest_but (Some p) time (with_event event (with_orders directed (with_traffic traffic g)))
passes_are traffic directed event time p g runs =
    ap (λ m. rest_but (Some p) time (evented event (obeyed_in directed m))) (traded_is traffic g)
    ∙ ap (λ m. rest_but (Some p) time (evented event m)) (obeyed_is directed (with_traffic traffic g))
    ∙ ap (rest_but (Some p) time) (evented_is event (with_orders directed (with_traffic traffic g)) runs)

-- the local tick of this work
abbrev tick_for : Machine → ℕ → Worked → LocalTick
tick_for g p work = seen_outside (view_of g.system p) g.ticks work

-- the outcome of a tick whose partition did this work
abbrev did : Machine → ℕ → Bool → Worked → Happened
did g p first work = record {
  turn = Some (record { part = p; first = first });
  local = Some (tick_for g p work);
  act = work.act;
  traffic = traffic_in g p work.act;
  event = event_of work.act;
}

-- what happened in such a tick
happened_is : (g : Machine) (p : ℕ) (first : Bool) (work : Worked) → turn_of g ≡ Some (record { part = p; first = first })
    → local g ≡ Some (tick_for g p work) → bounded (view_of g.system p) work.act ≡ work.act → happened g ≡ did g p first work
unfolding happened happened_by
happened_is g p first work turn works within =
    ap (λ (t : Option SlotTurn). happened_by g.system.conf t (local g)) turn
    ∙ ap (happened_by g.system.conf (Some (record { part = p; first = first }))) works
    ∙ ap (λ (act : Act). record {
      turn = Some (record { part = p; first = first });
      local = Some (tick_for g p work);
      act = act;
      traffic = traffic_as g.system.conf p (traffic_of act);
      event = event_of act;
    }) within

-- what traffic, an order and an event leave of a partition
abbrev reached : Machine → Happened → ℕ → PartitionState → PartitionState
reached g h q ps =
    after_event (view_of g.system q) h.event (obeyed (view_of g.system q) (order_upon h.act q) (hearing (view_of g.system q) (heard_as g.system.conf q h.traffic) ps))

-- what such a tick leaves of a partition
part_is : (g : Machine) (p : ℕ) (first : Bool) (work : Worked) (q : ℕ) (ps : PartitionState)
    → (if p == q then reached g (did g p first work) q (if p == q then work.after else ps) else rested g.time (reached g (did g p first work) q (if p == q then work.after else ps)))
    ≡ part_after g (did g p first work) q ps
unfolding part_after after_tick tick_of
part_is g p first work q ps = at (p == q)
  where
    at : (b : Bool)
        → (if b then reached g (did g p first work) q (if b then work.after else ps) else rested g.time (reached g (did g p first work) q (if b then work.after else ps)))
        ≡ rested_unless (is_some (if_its_turn b (Some (tick_for g p work)))) g.time (reached g (did g p first work) q (worked_in (if_its_turn b (Some (tick_for g p work))) ps))
    at true = refl
    at false = refl

-- the partitions after the passes
parts_are : (g : Machine) (p : ℕ) (first : Bool) (work : Worked)
    → (rest_but (Some p) g.time (with_event (event_of work.act) (with_orders (reach_of work.act).directed (with_traffic (traffic_in g p work.act) (with_part p work.after g))))).parts
    ≡ each (part_after g (did g p first work)) g.parts
parts_are g p first work =
    ap (λ (parts : List PartitionState). each (λ q (ps : PartitionState). if p == q then ps else rested g.time ps)
    (each (λ q ps. after_event (view_of g.system q) (event_of work.act) ps)
    (each (λ q ps. obeyed (view_of g.system q) (order_upon work.act q) ps)
    (each (λ q ps. hearing (view_of g.system q) (heard_as g.system.conf q (traffic_in g p work.act)) ps) parts))))
    (sym (each_set g.parts p work.after))
    ∙ each_five (λ q (ps : PartitionState). if p == q then ps else rested g.time ps)
    (λ q ps. after_event (view_of g.system q) (event_of work.act) ps)
    (λ q ps. obeyed (view_of g.system q) (order_upon work.act q) ps)
    (λ q ps. hearing (view_of g.system q) (heard_as g.system.conf q (traffic_in g p work.act)) ps)
    (λ q (ps : PartitionState). if p == q then work.after else ps) g.parts
    ∙ each_alike (λ q ps. if p == q then reached g (did g p first work) q (if p == q then work.after else ps) else rested g.time (reached g (did g p first work) q (if p == q then work.after else ps)))
    (part_after g (did g p first work)) g.parts (part_is g p first work)

-- the channels after them
channels_are : (g : Machine) (p : ℕ) (first : Bool) (work : Worked)
    → map (content_after (event_of work.act)) (each (after_traffic g.time (traffic_in g p work.act)) g.channels) ≡ each (channel_after g.time (did g p first work)) g.channels
unfolding channel_after
channels_are g p first work = map_each (content_after (event_of work.act)) (after_traffic g.time (traffic_in g p work.act)) g.channels

-- the machine after them
machine_is : (g : Machine) (p : ℕ) (first : Bool) (work : Worked) → g.halted ≡ false → worked_through p work g ≡ after g (did g p first work)
unfolding after next_clock
machine_is g p first work runs =
    ap (tick_ended work.act) (passes_are (traffic_in g p work.act) (reach_of work.act).directed (event_of work.act) g.time p (with_part p work.after g) runs)
    ∙ ap (λ (parts : List PartitionState). record {
      system = g.system;
      parts = parts;
      channels = map (content_after (event_of work.act)) (each (after_traffic g.time (traffic_in g p work.act)) g.channels);
      clock = clock_after (event_of work.act) g.system.conf work.act g.clock g.time;
      time = time_after (event_of work.act) g.time;
      ticks = ticks_after (event_of work.act) g.ticks;
      resets = whole_resets_after (event_of work.act) g.resets;
      halted = is_halt (event_of work.act);
    })
    (parts_are g p first work)
    ∙ ap (λ (channels : List Content). record {
      system = g.system;
      parts = each (part_after g (did g p first work)) g.parts;
      channels = channels;
      clock = clock_after (event_of work.act) g.system.conf work.act g.clock g.time;
      time = time_after (event_of work.act) g.time;
      ticks = ticks_after (event_of work.act) g.ticks;
      resets = whole_resets_after (event_of work.act) g.resets;
      halted = is_halt (event_of work.act);
    })
    (channels_are g p first work)

-- the lines of an order
orders_are : (directed : Option Directed) (g : Machine) → IfSome directed (λ one. one.id < length g.parts)
    → all_of (λ q ps. map (line_of g.ticks q) (obeyed_emissions (order_for directed q) ps)) g.parts ≡ obeyed_lines directed g
orders_are None g below = none_of (λ q (ps : PartitionState). map (line_of g.ticks q) (obeyed_emissions (order_for None q) ps)) g.parts (λ k ps. refl)
orders_are (Some directed) g below =
    all_one (λ q (ps : PartitionState). map (line_of g.ticks q) (obeyed_emissions (order_for (Some directed) q) ps)) (booted_part g.system directed.id) g.parts directed.id below
    (λ k ps apart. ap (λ (b : Bool). map (line_of g.ticks k) (obeyed_emissions (if b then Some directed.order else None) ps)) (ne_eqb directed.id k (λ e. apart (sym e))))
    ∙ ap (λ (b : Bool). map (line_of g.ticks directed.id) (obeyed_emissions (if b then Some directed.order else None) (slice_index_or g.parts directed.id (booted_part g.system directed.id))))
    (eq-eqb directed.id directed.id refl)

-- there is a partition of this number, also after a write
still_there : (directed : Option Directed) (xs : List PartitionState) (p : ℕ) (new : PartitionState) → IfSome directed (λ one. one.id < length xs)
    → IfSome directed (λ one. one.id < length (slice_set xs p new))
still_there None xs p new below = below
still_there (Some directed) xs p new below = rw (length-set xs p new) below

-- a partition after its work
after_work_done : (b : Bool) (tick : LocalTick) (ps : PartitionState) → worked_in (if_its_turn b (Some tick)) ps ≡ (if b then tick.after else ps)
after_work_done true tick ps = refl
after_work_done false tick ps = refl

-- the lines of an order in such a tick
emitted_orders : (g : Machine) (p : ℕ) (first : Bool) (work : Worked) → IfSome (reach_of work.act).directed (λ one. one.id < length g.parts)
    → all_of (order_lines g (did g p first work)) g.parts ≡ obeyed_lines (reach_of work.act).directed (with_part p work.after g)
unfolding order_lines tick_of
emitted_orders g p first work below =
    all_alike (order_lines g (did g p first work)) (λ q ps. map (line_of g.ticks q) (obeyed_emissions (order_upon work.act q) (if p == q then work.after else ps))) g.parts
    (λ q ps. ap (λ s. map (line_of g.ticks q) (obeyed_emissions (order_upon work.act q) s)) (after_work_done (p == q) (tick_for g p work) ps))
    ∙ sym (all_after_each (λ q ps. map (line_of g.ticks q) (obeyed_emissions (order_upon work.act q) ps)) (λ q (ps : PartitionState). if p == q then work.after else ps) g.parts)
    ∙ ap (all_of (λ q ps. map (line_of g.ticks q) (obeyed_emissions (order_upon work.act q) ps))) (each_set g.parts p work.after)
    ∙ orders_are (reach_of work.act).directed (with_part p work.after g) (still_there (reach_of work.act).directed g.parts p work.after below)

-- all lines of such a tick
lines_are : (g : Machine) (p : ℕ) (first : Bool) (work : Worked) → IfSome (reach_of work.act).directed (λ one. one.id < length g.parts)
    → lines_of g (did g p first work) ≡ worked_lines p work g
unfolding lines_of next_clock
lines_are g p first work below =
    ap (λ (orders : List ReportLine). map (line_of g.ticks (view_of g.system p).id) work.emitted ++ orders ++ whole_lines g.ticks (event_of work.act)
    ++ all_of (λ q ps. event_lines g.ticks (event_of work.act) q) g.parts
    ++ plan_lines g.ticks g.clock.plan (clock_after (event_of work.act) g.system.conf work.act g.clock g.time).plan)
    (emitted_orders g p first work below)
    ∙ ap (λ (id : ℕ). map (line_of g.ticks id) work.emitted ++ obeyed_lines (reach_of work.act).directed (with_part p work.after g)
    ++ whole_lines g.ticks (event_of work.act) ++ all_of (λ q ps. event_lines g.ticks (event_of work.act) q) g.parts
    ++ plan_lines g.ticks g.clock.plan (clock_after (event_of work.act) g.system.conf work.act g.clock g.time).plan)
    (view_id g.system p)

-- the law on a tick in passes
pub tick_in_passes : TickInPasses
tick_in_passes g p first work runs there is within below =
    let happens : happened g ≡ did g p first work = happened_is g p first work is.turn is.local within in
    record {
      state = is.state ∙ ap (after g) happens ∙ sym (machine_is g p first work runs);
      lines = is.lines ∙ ap (lines_of g) happens ∙ lines_are g p first work below;
    }

-- all partitions rest in one pass
pub all_rest : AllRest
all_rest g last = sym (each_map (λ q ps. rested (g.time + last) ps) (rested (g.time + last)) g.parts (λ k ps. refl))

-- all but one
pub others_rest : OthersRest
others_rest g last p new = set_each_but (rested (g.time + last)) g.parts p new

-- the law on the tick after a span, in passes
pub passed_next : PassedNext
passed_next g done parts p first work next runs there within below =
    let passes : IsInPasses (run g done) p work = tick_in_passes (run g done) p first work runs there next.tick within below in
    record {
      before = next.before.state;
      state = next.state ∙ sym next.tick.state ∙ passes.state;
      lines = next.lines ∙ sym next.tick.lines ∙ passes.lines;
    }

-- a partition that rests, and later again, unless it is this one
rests_later : (b : Bool) (t1 t2 : ℕ) (ps : PartitionState) → t1 ≤ t2
    → (if b then (if b then ps else rested t1 ps) else rested t2 (if b then ps else rested t1 ps)) ≡ (if b then ps else rested t2 ps)
rests_later true t1 t2 ps later = refl
rests_later false t1 t2 ps later = rested_twice t1 t2 ps later

-- one pass of rest and a later one are the later one
pub others_rest_later : OthersRestLater
others_rest_later x t1 t2 g later =
    ap (λ (parts : List PartitionState). record g { parts = parts })
    (each_twice (λ q (ps : PartitionState). if is_number x q then ps else rested t2 ps) (λ q (ps : PartitionState). if is_number x q then ps else rested t1 ps) g.parts
    ∙ each_alike (λ q ps. if is_number x q then (if is_number x q then ps else rested t1 ps) else rested t2 (if is_number x q then ps else rested t1 ps))
    (λ q ps. if is_number x q then ps else rested t2 ps) g.parts (λ q ps. rests_later (is_number x q) t1 t2 ps later))
