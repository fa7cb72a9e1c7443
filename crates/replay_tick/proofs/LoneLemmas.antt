-- A tick of one partition in isolation, as it is done on the whole system.
use Rattle.std.proofs.Common.{◌≡◌, ◌≢◌, ℕ, ◌+◌, ◌<◌, ◌≤◌, Bool, true, false, List, [], ◌++◌, length, map, Option, None, Some, refl, sym, ap, ◌∙◌, subst, arith}
use Rattle.std.proofs.lemmas.List.{length-set}
use Rattle.std.specs.Prelude.{◌&&◌, if◌then◌else◌}
use Rattle.system_state.specs.State.{SysState, with_machine}
use Rattle.system_state.specs.declared.served.Note.TheVariants as note
use Rattle.xm_base.specs.declared.partition.Order.{Order}
use Rattle.xm_conf.specs.Configuration.{Conf}
use Rattle.xm_report.specs.Report.{ReportLine}
use Rattle.cue_scripts.specs.Entries.{is_away}
use Rattle.cue_scripts.specs.Script.{CanHear, CanSee, HearsNothing, numbered_chan, chan_called, heard_in, is_length, most_heard}
use Rattle.cue_scripts.specs.Values.{slot_value}
use Rattle.cue_scripts.specs.declared.cue.CueSlot as code_slot
use Rattle.cue_scripts.specs.declared.cue.CueSlot.TheVariants as its
use Rattle.machine_model.specs.Alone.{Alone, alone_after, alone_local, alone_local_in, alone_step}
use Rattle.machine_model.specs.Cue.{Away, Cue, Mine, CueSlot}
use Rattle.machine_model.specs.Facts.{AreFacts, IsItsOwn, KeepsFactsAlone}
use Rattle.machine_model.specs.Laws.{part}
use Rattle.machine_model.specs.LocalTick.{LocalTick, local_tick}
use Rattle.machine_model.specs.Machine.{Machine, act_of, copies, is_halt, obeyed, obeyed_emissions}
use Rattle.machine_model.specs.Partition.{PartitionState, reset, takes_turns}
use Rattle.machine_model.specs.Structures.{flag}
use Rattle.machine_model.specs.Emission.{NotKept, OwnPuts, OwnSignals, OwnStill, OwnTakes, OwnTraffic, Sight, Unseen, Words, line_of}
use Rattle.machine_model.specs.View.{PartitionView, System, named, view_of}
use Rattle.machine_model.specs.Whole.{AllHalted, AllReset, NoEvent, WholeEvent, event_lines, event_of, ticks_after}
use Rattle.span_model.specs.Passes.{part_at, with_part}
use Rattle.xm_ports.specs.Channels.{shapes_of}
use Rattle.replay_model.specs.Kept.{IsKeptBy, PassesKeep}
use Rattle.replay_model.specs.Laws.{AwayTicks, IsOwnChannel, RestingTicksAlone, away_lines}
use Rattle.replay_model.specs.Passes.{away_passed, event_met, part_in, rested_in, tick_past, traffic_received}
use Rattle.replay_model.specs.Taking.{is_no_sight, is_same_event, takes_traffic}
use Rattle.replay_model.specs.TakingLaws.{TakesAway, TakesResting}
use Rattle.replay_model.specs.Step.{IsOfSystem}
use Rattle.replay_tick.specs.LoneWork.{IsLoneTick, most_lines}
use Rattle.replay_tick.specs.lemmas.LoneWorkTerms.{traffic_done}
use Rattle.tick_steps.specs.Machine.{IsMachine}
use Rattle.replay_tick.proofs.PutLemmas.{is_received}
use Rattle.tick_steps.specs.lemmas.KeptLemmas.{facts_at}

-- what a message of others is on is a channel that the partition has
length_some : (most : Option ℕ) (count : ℕ) → is_length most count ≡ true → (m : ℕ) × (most ≡ Some m)
length_some None count is = absurd cc
length_some (Some m) count is = (m, refl)

heard_there : (conf : Conf) (p : ℕ) (o : Option ℕ) (m : ℕ) → heard_in p (numbered_chan conf o) ≡ Some m → (c : ℕ) × (o ≡ Some c)
heard_there conf p None m is = absurd cc
heard_there conf p (Some c) m is = (c, refl)

pub called_by : (conf : Conf) (p : ℕ) (own : OwnTraffic) → CanHear conf p own → IsOwnChannel conf p own
unfolding most_heard chan_called
called_by conf p OwnStill can = tt
called_by conf p (OwnPuts q bytes) can =
    let some = length_some (heard_in p (numbered_chan conf (named conf p q))) (length bytes) can.fits in
    heard_there conf p (named conf p q) some.0 some.1
called_by conf p (OwnTakes q) can = tt
called_by conf p (OwnSignals number) can = tt

-- the system after all passes of a tick in the slot of another partition, or in a gap
pub away_state : (p : ℕ) (cue : Cue) (old s1 s2 s3 s4 : SysState) → s1 ≡ with_machine (traffic_done true old.machine p cue.traffic) old
    → s2 ≡ with_machine (with_part p (obeyed (view_of s1.machine.system p) cue.order (part_at p s1.machine)) s1.machine) s1
    → s3 ≡ with_machine (event_met p cue.whole s2.machine) s2 → s4 ≡ with_machine (tick_past cue.whole (rested_in p s3.machine)) s3
    → s4 ≡ with_machine (away_passed p cue old.machine) old
away_state p cue old s1 s2 s3 s4 e1 e2 e3 e4 =
    e4
    ∙ ap (λ (s : SysState). with_machine (tick_past cue.whole (rested_in p s.machine)) s) e3
    ∙ ap (λ (s : SysState). with_machine (tick_past cue.whole (rested_in p (event_met p cue.whole s.machine))) s) e2
    ∙ ap (λ (s : SysState). with_machine (tick_past cue.whole (rested_in p (event_met p cue.whole (with_part p (obeyed (view_of s.machine.system p) cue.order (part_at p s.machine)) s.machine)))) s) e1

-- its lines
pub away_received : (p : ℕ) (cue : Cue) (old s1 s2 : SysState) (had between got : List ReportLine) → had ≡ [] → s1 ≡ with_machine (traffic_done true old.machine p cue.traffic) old
    → s2 ≡ with_machine (with_part p (obeyed (view_of s1.machine.system p) cue.order (part_at p s1.machine)) s1.machine) s1
    → between ≡ had ++ map (line_of s1.machine.ticks p) (obeyed_emissions cue.order (part_at p s1.machine)) → got ≡ between ++ event_lines s2.machine.ticks cue.whole p
    → got ≡ away_lines p cue old.machine
away_received p cue old s1 s2 had between got none e1 e2 first last =
    last
    ∙ ap (λ (s : SysState). between ++ event_lines s.machine.ticks cue.whole p) e2
    ∙ ap (λ (lines : List ReportLine). lines ++ event_lines s1.machine.ticks cue.whole p) (first ∙ ap (λ (lines : List ReportLine). lines ++ map (line_of s1.machine.ticks p) (obeyed_emissions cue.order (part_at p s1.machine))) none)
    ∙ ap (λ (s : SysState). map (line_of s.machine.ticks p) (obeyed_emissions cue.order (part_at p s.machine)) ++ event_lines s.machine.ticks cue.whole p) e1
    ∙ ap (λ (n : ℕ). map (line_of n p) (obeyed_emissions cue.order (part_at p (traffic_received p cue.traffic old.machine))) ++ event_lines n cue.whole p) (is_received p cue.traffic old.machine).ticks

-- a tick in the slot of another partition, or in a gap, that was done
pub away_done : AwayTicks → TakesAway → PassesKeep → (p : ℕ) (cue : Cue) (old new : SysState) (got : List ReportLine) → p < length old.machine.parts → old.machine.halted ≡ false
    → cue.mine ≡ Away → cue.seen ≡ Unseen → CanHear old.machine.system.conf p cue.traffic → takes_traffic (view_of old.machine.system p) (copies old.machine p) cue.traffic ≡ true
    → new ≡ with_machine (away_passed p cue old.machine) old → got ≡ away_lines p cue old.machine → length got ≤ most_lines → IsLoneTick (Some note.Nothing) p cue old.machine new.machine got
away_done ticks takes keeps p cue old new got below runs away unseen can taken is emitted few =
    let tick = ticks old.machine p cue below away (called_by old.machine.system.conf p cue.traffic can) in
    let kept = keeps.away old.machine p cue runs below in
    record {
      lone = record {
        taken = takes old.machine p cue away unseen ∙ taken;
        part = ap (λ (s : SysState). part_in s.machine p) is ∙ tick.part;
        halted = ap (λ (s : SysState). s.machine.halted) is ∙ kept.halted;
      };
      lines = tick.lines ∙ sym emitted;
      readable = tt;
      few = few;
    }

-- one more tick has begun: it is counted, or it halts the hypervisor
event_begins : (e : WholeEvent) (ticks : ℕ) → ticks_after e ticks + flag (is_halt e) ≡ ticks + 1
event_begins NoEvent ticks = omega arith
event_begins (AllReset mode) ticks = omega arith
event_begins AllHalted ticks = omega arith

-- events that count the same halt the same
same_halt : (e other : WholeEvent) (n : ℕ) → ticks_after e n ≡ ticks_after other n → is_halt e ≡ is_halt other
same_halt e other n same = same_flag (is_halt e) (is_halt other) (omega (arith, event_begins e n, event_begins other n, same))
  where
    same_flag : (a b : Bool) → flag a ≡ flag b → a ≡ b
    same_flag true true is = refl
    same_flag false false is = refl
    same_flag true false is = absurd (omega (arith, is))
    same_flag false true is = absurd (omega (arith, is))

alone_ticks : (view : PartitionView) (a : Alone) (cue : Cue) → (alone_step view a cue).ticks ≡ ticks_after cue.whole a.ticks
unfolding alone_after alone_step
alone_ticks view a cue = refl

-- a machine stays one
pub machine_kept : KeepsFactsAlone → (p : ℕ) (cue : Cue) (event : WholeEvent) (old new : SysState) (g : Machine) → IsMachine old → p < length old.machine.parts → old.machine.halted ≡ false
    → old.machine.ticks < 4000000000 → IsKeptBy p event old.machine g → part_in g p ≡ alone_step (view_of old.machine.system p) (part_in old.machine p) cue
    → IsItsOwn cue.mine (view_of old.machine.system p) (part_in old.machine p) cue → new ≡ with_machine g old → IsMachine new
unfolding part
machine_kept law p cue event old new g is below runs few kept alone its new_is =
    let view : PartitionView = view_of old.machine.system p in
    let ticks : g.ticks ≡ ticks_after cue.whole old.machine.ticks = ap (λ (a : Alone). a.ticks) alone ∙ alone_ticks view (part_in old.machine p) cue in
    let halts : g.halted ≡ is_halt cue.whole = kept.halted ∙ same_halt event cue.whole old.machine.ticks (sym kept.ticks ∙ ticks) in
    let before : AreFacts view old.machine.ticks false (part_at p old.machine) = subst (λ (b : Bool). AreFacts view old.machine.ticks b (part_at p old.machine)) runs (facts_at old p is below) in
    let facts : AreFacts view g.ticks g.halted (part_at p g) =
    subst (AreFacts view g.ticks g.halted) (sym (ap (λ (a : Alone). a.state) alone))
    (subst (λ (n : ℕ). AreFacts view n g.halted (alone_step view (part_in old.machine p) cue).state) (sym ticks)
    (subst (λ (b : Bool). AreFacts view (ticks_after cue.whole old.machine.ticks) b (alone_step view (part_in old.machine p) cue).state) (sym halts)
    (law view (part_in old.machine p) cue old.machine.ticks its before))) in
    let counts : g.ticks + flag g.halted ≡ old.machine.ticks + 1 = ap (λ (n : ℕ). n + flag g.halted) ticks ∙ ap (λ (b : Bool). ticks_after cue.whole old.machine.ticks + flag b) halts ∙ event_begins cue.whole old.machine.ticks in
    subst IsMachine (sym new_is) (record {
      shapes = is.shapes ∙ ap (λ (s : System). shapes_of s.conf) (sym kept.system);
      fits = rw (kept.system) is.fits;
      complete = record {
        parts = kept.parts ∙ is.complete.parts ∙ ap (λ (s : System). length s.conf.parts) (sym kept.system);
        channels = kept.channels ∙ is.complete.channels ∙ ap (λ (s : System). length s.conf.chans) (sym kept.system);
      };
      clocked = kept.clocked is.fits is.clocked;
      counted = record { facts = kept.facts is.counted.facts facts; time = kept.timed is.counted.time; ticks = omega (arith, counts, few) };
    })

pub of_system : (p : ℕ) (event : WholeEvent) (old new : SysState) (g : Machine) → IsKeptBy p event old.machine g → new ≡ with_machine g old → IsOfSystem old.machine new.machine
of_system p event old new g kept is = record {
  system = ap (λ (s : SysState). s.machine.system) is ∙ kept.system;
  parts = ap (λ (s : SysState). length s.machine.parts) is ∙ kept.parts;
}

-- a tick that was not done leaves the machine
pub undone_machine : (old new : SysState) → new ≡ old → IsMachine old → IsMachine new
undone_machine old new is machine = subst IsMachine (sym is) machine

-- in the slot of another partition, or in a gap, nothing is shown, and all that is received is of others
pub unseen_away : (system : Bool) (mine : CueSlot) (seen : Sight) → mine ≡ Away → CanSee system mine seen → seen ≡ Unseen
unseen_away system mine Unseen away can = refl
unseen_away system mine NotKept away can = absurd (let e : is_away mine ≡ true = ap is_away away in let no : true ≡ false = sym e ∙ can.0 in cc)
unseen_away system mine (Words bytes) away can = absurd (let e : is_away mine ≡ true = ap is_away away in let no : true ≡ false = sym e ∙ can.0 in cc)

pub its_away : (view : PartitionView) (a : Alone) (cue : Cue) (mine : CueSlot) → mine ≡ Away → IsItsOwn mine view a cue
its_away view a cue mine away = subst (λ (slot : CueSlot). IsItsOwn slot view a cue) (sym away) tt

-- there are as many partitions after each pass
done_length : (b : Bool) (g : Machine) (p : ℕ) (own : OwnTraffic) → length (traffic_done b g p own).parts ≡ length g.parts
done_length true g p own = (is_received p own g).parts
done_length false g p own = refl

pub heard_below : (b : Bool) (p : ℕ) (own : OwnTraffic) (old new : SysState) → p < length old.machine.parts → new ≡ with_machine (traffic_done b old.machine p own) old → p < length new.machine.parts
heard_below b p own old new below is = subst (λ (n : ℕ). p < n) (sym (ap (λ (s : SysState). length s.machine.parts) is ∙ done_length b old.machine p own)) below

pub put_below : (p : ℕ) (x : PartitionState) (old new : SysState) → p < length old.machine.parts → new ≡ with_machine (with_part p x old.machine) old → p < length new.machine.parts
put_below p x old new below is = subst (λ (n : ℕ). p < n) (sym (ap (λ (s : SysState). length s.machine.parts) is ∙ length-set old.machine.parts p x)) below

met_length : (p : ℕ) (e : WholeEvent) (g : Machine) → length (event_met p e g).parts ≡ length g.parts
met_length p NoEvent g = refl
met_length p (AllReset mode) g = length-set g.parts p (reset (view_of g.system p) mode 0 (part_at p g))
met_length p AllHalted g = refl

pub met_below : (p : ℕ) (e : WholeEvent) (old new : SysState) → p < length old.machine.parts → new ≡ with_machine (event_met p e old.machine) old → p < length new.machine.parts
met_below p e old new below is = subst (λ (n : ℕ). p < n) (sym (ap (λ (s : SysState). length s.machine.parts) is ∙ met_length p e old.machine)) below

-- the traffic of others was done
pub heard_so : (b : Bool) (p : ℕ) (own : OwnTraffic) (old new : SysState) → b ≡ true → new ≡ with_machine (traffic_done b old.machine p own) old → new ≡ with_machine (traffic_done true old.machine p own) old
heard_so b p own old new taken is = is ∙ ap (λ (t : Bool). with_machine (traffic_done t old.machine p own) old) taken

-- in a slot of its own
pub own_slot : (mine : code_slot.CueSlot) → mine ≢ its.Away → (first : Bool) × (slot_value mine ≡ Mine first)
own_slot its.Away own = absurd (own refl)
own_slot (its.Mine first) own = (first, refl)

pub alone_in : (mine : CueSlot) (first : Bool) (traffic : OwnTraffic) (order : Option Order) → mine ≡ Mine first → HearsNothing mine traffic order → (traffic ≡ OwnStill) × (order ≡ None)
alone_in mine first traffic order own is = subst (λ (slot : CueSlot). HearsNothing slot traffic order → (traffic ≡ OwnStill) × (order ≡ None)) (sym own) (λ both. both) is

none_event : (event : WholeEvent) → is_same_event NoEvent event ≡ true → event ≡ NoEvent
none_event NoEvent same = refl
none_event (AllReset mode) same = absurd cc
none_event AllHalted same = absurd cc

both_true : (a b : Bool) → a ≡ true → b ≡ true → (a && b) ≡ true
both_true a b one other = rw (one, other) refl

-- a tick in a slot of a partition that takes no turns
pub rest_done : RestingTicksAlone → TakesResting → PassesKeep → (p : ℕ) (first : Bool) (cue : Cue) (old new : SysState) → p < length old.machine.parts → old.machine.halted ≡ false
    → cue.mine ≡ Mine first → HearsNothing cue.mine cue.traffic cue.order → is_no_sight cue.seen ≡ true → is_same_event NoEvent cue.whole ≡ true → takes_turns (part_at p old.machine).state ≡ false
    → new ≡ with_machine (tick_past NoEvent (rested_in p old.machine)) old → IsLoneTick (Some note.Nothing) p cue old.machine new.machine []
rest_done ticks takes keeps p first cue old new below runs own is unseen quiet rests done =
    let alone = alone_in cue.mine first cue.traffic cue.order own is in
    let none : cue.whole ≡ NoEvent = none_event cue.whole quiet in
    let tick = ticks old.machine p first cue below own alone.0 alone.1 none rests in
    let kept = keeps.resting old.machine p runs below in
    record {
      lone = record {
        taken = takes old.machine p first cue own alone.0 rests ∙ both_true (is_no_sight cue.seen) (is_same_event NoEvent cue.whole) unseen quiet;
        part = ap (λ (s : SysState). part_in s.machine p) done ∙ tick.part;
        halted = ap (λ (s : SysState). s.machine.halted) done ∙ kept.halted ∙ sym (ap is_halt none);
      };
      lines = tick.lines;
      readable = tt;
      few = omega arith;
    }

-- what it receives there is its own
pub its_rest : (view : PartitionView) (a : Alone) (cue : Cue) (first : Bool) → cue.mine ≡ Mine first → HearsNothing cue.mine cue.traffic cue.order → is_same_event NoEvent cue.whole ≡ true
    → takes_turns a.state.state ≡ false → IsItsOwn cue.mine view a cue
unfolding alone_local
its_rest view a cue first own is quiet rests =
    let alone = alone_in cue.mine first cue.traffic cue.order own is in
    let none : alone_local_in cue.mine view a cue.seen ≡ None =
    ap (λ (mine : CueSlot). alone_local_in mine view a cue.seen) own ∙ ap (λ (b : Bool). if b then Some (local_tick view a.state a.copies a.ticks a.time first cue.seen) else None) rests in
    subst (λ (slot : CueSlot). IsItsOwn slot view a cue) (sym own) (alone.1, none_event cue.whole quiet ∙ sym (ap (λ (o : Option LocalTick). event_of (act_of o)) none))

pub its_own : (p : ℕ) (g : Machine) (cue : Cue) (first : Bool) → cue.mine ≡ Mine first → HearsNothing cue.mine cue.traffic cue.order → is_same_event NoEvent cue.whole ≡ true
    → takes_turns (part_at p g).state ≡ false → IsItsOwn cue.mine (view_of g.system p) (part_in g p) cue
unfolding part
its_own p g cue first own is quiet rests = its_rest (view_of g.system p) (part_in g p) cue first own is quiet rests

pub rest_part : RestingTicksAlone → (g : Machine) (p : ℕ) (first : Bool) (cue : Cue) → p < length g.parts → cue.mine ≡ Mine first → HearsNothing cue.mine cue.traffic cue.order
    → is_same_event NoEvent cue.whole ≡ true → takes_turns (part_at p g).state ≡ false → part_in (tick_past NoEvent (rested_in p g)) p ≡ alone_step (view_of g.system p) (part_in g p) cue
rest_part ticks g p first cue below own is quiet rests =
    let alone = alone_in cue.mine first cue.traffic cue.order own is in
    (ticks g p first cue below own alone.0 alone.1 (none_event cue.whole quiet) rests).part
