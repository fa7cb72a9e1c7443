-- A tick of one partition in isolation in which it takes its turn.
use Rattle.std.proofs.Common.{◌≡◌, ℕ, ◌+◌, ◌<◌, ◌≤◌, Bool, true, false, List, ◌++◌, length, map, Option, None, Some, refl, sym, ap, subst, ◌∙◌, arith}
use Rattle.std.specs.Prelude.{◌&&◌, ◌||◌, if◌then◌else◌}
use Rattle.std.proofs.lemmas.List.{append_assoc, get_or-set_same, length-set}
use Rattle.cyclic_plans.specs.PlanClock.{CyclicClock, IsInFrame}
use Rattle.system_state.specs.Serving.{CanBeEmitted}
use Rattle.system_state.specs.State.{SysState, areas_in, memory_of, with_machine}
use Rattle.system_state.specs.declared.served.Note.{Note}
use Rattle.system_state.specs.declared.served.Note.TheVariants as note
use Rattle.xm_base.specs.declared.partition.Mode.{Mode}
use Rattle.xm_base.specs.declared.partition.Mode.TheVariants as mode
use Rattle.xm_report.specs.Report.{ReportLine}
use Rattle.xm_traces.specs.Ring.{Kept}
use Rattle.xm_traces.specs.declared.entry.TraceEntry.{TraceEntry}
use Rattle.cue_scripts.specs.Script.{HearsNothing, IsCue}
use Rattle.cue_scripts.specs.Values.{slot_value}
use Rattle.cue_scripts.specs.declared.cue.CueSlot.TheVariants as its
use Rattle.tick_steps.specs.lemmas.PartLemmas.{traded_memory}
use Rattle.machine_model.specs.Alone.{Alone, alone_local, alone_local_in, alone_step_lines}
use Rattle.machine_model.specs.Cue.{Cue, Mine, CueSlot}
use Rattle.machine_model.specs.Facts.{AreEnds, AreFacts, AreLast, HaveEight, IsItsOwn, KeepsFactsAlone}
use Rattle.machine_model.specs.Health.{Worked}
use Rattle.machine_model.specs.Laws.{ActsWithinBounds, part}
use Rattle.machine_model.specs.LocalTick.{LocalTick, bounded, local_tick, worked}
use Rattle.machine_model.specs.Machine.{Machine, act_of as act_in, booted_part, copies, is_halt}
use Rattle.machine_model.specs.Observed.{asks}
use Rattle.machine_model.specs.Partition.{PartitionState, is_halted, takes_turns}
use Rattle.machine_model.specs.Structures.{flag}
use Rattle.machine_model.specs.Emission.{Sight, Emission, line_of}
use Rattle.machine_model.specs.Traffic.{Traffic}
use Rattle.machine_model.specs.View.{PartitionView, System, view_of}
use Rattle.machine_model.specs.Whole.{AllHalted, AllReset, NoEvent, WholeEvent, event_lines, event_of}
use Rattle.span_model.specs.Passes.{part_at, traded, traffic_in, with_part}
use Rattle.replay_model.specs.Kept.{IsKeptBy, PassesKeep}
use Rattle.replay_model.specs.Laws.{WorkingTicks}
use Rattle.replay_model.specs.Passes.{event_met, part_in, tick_past, work_passed}
use Rattle.replay_model.specs.Step.{IsOfSystem}
use Rattle.replay_model.specs.Taking.{is_same_event, is_same_mode, takes_cue, takes_sight}
use Rattle.replay_model.specs.TakingLaws.{TakesWorking}
use Rattle.replay_tick.specs.lemmas.LoneWorkTerms.{IsLoneDone, IsUncounted, IsWorkUndone}
use Rattle.replay_tick.specs.LoneWork.{IsLoneTick, most_lines}
use Rattle.tick_steps.specs.CueValues.{cue_value}
use Rattle.tick_steps.specs.Machine.{IsMachine}
use Rattle.tick_steps.specs.lemmas.SpanTerms.{CanTake}
use Rattle.tick_steps.specs.Work.{EmitsAlone, act_beyond, console_emissions}
use Rattle.tick_steps.specs.declared.beyond.Beyond.{Beyond}
use Rattle.tick_steps.specs.declared.cue.Cue as code
use Rattle.replay_tick.specs.declared.work.LoneWork.{LoneWork}
use Rattle.replay_tick.proofs.PutLemmas.{IsTraded, is_traded}
use Rattle.tick_steps.specs.lemmas.KeptLemmas.{facts_at, facts_with}
use Rattle.replay_tick.proofs.LoneLemmas.{alone_in, machine_kept, of_system}

-- traffic leaves the memory of a partition that was put
put_memory : (t : Traffic) (p : ℕ) (x : PartitionState) (g : Machine) → p < length g.parts → memory_of p (traded t (with_part p x g)) ≡ x.memory
put_memory t p x g below = traded_memory t p (with_part p x g) ∙ ap (λ (ps : PartitionState). ps.memory) (get_or-set_same g.parts p x (booted_part g.system p) below)

-- the frame of a machine whose traffic is done
pub frame_traded : (g h : Machine) → IsTraded g h → IsInFrame g.system.conf g.clock g.time → IsInFrame h.system.conf h.clock h.time
frame_traded g h keeps frame =
    subst (λ (n : ℕ). IsInFrame h.system.conf h.clock n) (sym keeps.time)
    (subst (λ (k : CyclicClock). IsInFrame h.system.conf k g.time) (sym keeps.clock)
    (subst (λ (s : System). IsInFrame s.conf g.clock g.time) (sym keeps.system) frame))

-- hypervisor events that are the same
same_mode : (one other : Mode) → is_same_mode one other ≡ true → other ≡ one
same_mode mode.Cold mode.Cold is = refl
same_mode mode.Cold mode.Warm is = absurd cc
same_mode mode.Warm mode.Cold is = absurd cc
same_mode mode.Warm mode.Warm is = refl

same_event : (one other : WholeEvent) → is_same_event one other ≡ true → other ≡ one
same_event NoEvent NoEvent is = refl
same_event NoEvent (AllReset other) is = absurd cc
same_event NoEvent AllHalted is = absurd cc
same_event (AllReset one) NoEvent is = absurd cc
same_event (AllReset one) (AllReset other) is = ap AllReset (same_mode one other is)
same_event (AllReset one) AllHalted is = absurd cc
same_event AllHalted NoEvent is = absurd cc
same_event AllHalted (AllReset other) is = absurd cc
same_event AllHalted AllHalted is = refl

both_true : (a b : Bool) → a ≡ true → b ≡ true → (a && b) ≡ true
both_true a b one other = rw (one, other) refl

both_false : (a b : Bool) → b ≡ false → (a && b) ≡ false
both_false true b other = other
both_false false b other = refl

-- the work of a tick keeps within its bounds
work_bounded : ActsWithinBounds → (g : Machine) (p : ℕ) (first : Bool) (seen : Sight)
    → bounded (view_of g.system p) (worked (view_of g.system p) (copies g p) g.time first seen (part_at p g)).act ≡ (worked (view_of g.system p) (copies g p) g.time first seen (part_at p g)).act
unfolding local_tick
work_bounded law g p first seen = law g.system p (part_at p g) (copies g p) g.ticks g.time first seen

-- the same cue, but for its hypervisor event
abbrev with_event : Cue → WholeEvent → Cue
with_event cue event = record cue { whole = event }

-- what it receives is its own
its_turn : ActsWithinBounds → (g : Machine) (p : ℕ) (first : Bool) (cue : Cue) → cue.mine ≡ Mine first → cue.order ≡ None → takes_turns (part_at p g).state ≡ true
    → IsItsOwn cue.mine (view_of g.system p) (part_in g p)
    (with_event cue (event_of (worked (view_of g.system p) (copies g p) g.time first cue.seen (part_at p g)).act))
unfolding alone_local part local_tick
its_turn law g p first cue own unordered turns =
    let view : PartitionView = view_of g.system p in
    let w : Worked = worked view (copies g p) g.time first cue.seen (part_at p g) in
    let a : Alone = part_in g p in
    let local : alone_local_in cue.mine view a cue.seen ≡ Some (local_tick view (part_at p g) (copies g p) g.ticks g.time first cue.seen) =
    ap (λ (mine : CueSlot). alone_local_in mine view a cue.seen) own
    ∙ ap (λ (b : Bool). if b then Some (local_tick view (part_at p g) (copies g p) g.ticks g.time first cue.seen) else None) turns in
    subst (λ (slot : CueSlot). IsItsOwn slot view a (with_event cue (event_of w.act))) (sym own)
    (unordered, sym (ap (λ (o : Option LocalTick). event_of (act_in o)) local ∙ ap event_of (law g.system p (part_at p g) (copies g p) g.ticks g.time first cue.seen)))

-- the system after the end of a tick in which the partition did its work
worked_state : (p : ℕ) (w : Worked) (event : WholeEvent) (old mid new : SysState) → mid ≡ with_machine (traded (traffic_in old.machine p w.act) (with_part p w.after old.machine)) old
    → event ≡ event_of w.act → new ≡ with_machine (tick_past event (event_met p event mid.machine)) mid → new ≡ with_machine (work_passed p w old.machine) old
worked_state p w event old mid new mid_is event_is new_is =
    new_is
    ∙ ap (λ (e : WholeEvent). with_machine (tick_past e (event_met p e mid.machine)) mid) event_is
    ∙ ap (λ (s : SysState). with_machine (tick_past (event_of w.act) (event_met p (event_of w.act) s.machine)) s) mid_is

-- the bytes for the console still stand in the partition's memory
console_stands : (p : ℕ) (w : Worked) (a_note : Note) (reach : Beyond) (g : Machine) → p < length g.parts → EmitsAlone a_note reach → event_of w.act ≡ event_of (act_beyond reach)
    → console_emissions a_note (memory_of p (work_passed p w g)) ≡ console_emissions a_note w.after.memory
console_stands p w note.Nothing reach g below alone same = refl
console_stands p w (note.Console at size) reach g below alone same =
    let none : event_of w.act ≡ NoEvent = same ∙ ap event_of alone in
    ap (λ (e : WholeEvent). console_emissions (note.Console at size) (memory_of p (tick_past e (event_met p e (traded (traffic_in g p w.act) (with_part p w.after g)))))) none
    ∙ ap (console_emissions (note.Console at size)) (put_memory (traffic_in g p w.act) p w.after g below)
console_stands p w (note.Trace entry) reach g below alone same = refl
console_stands p w (note.Put chan at size) reach g below alone same = refl
console_stands p w (note.Take chan) reach g below alone same = refl
console_stands p w (note.Saw at size) reach g below alone same = refl
console_stands p w note.NotKept reach g below alone same = refl
console_stands p w (note.Signal number) reach g below alone same = refl

-- a tick in which a partition took its turn
pub record IsTurn (p : ℕ) (first : Bool) (cue : Cue) (old : SysState) : Type 0 where
  pub machine : IsMachine old
  pub below : p < length old.machine.parts
  pub running : old.machine.halted ≡ false
  pub more : old.machine.ticks < 4000000000
  pub own : cue.mine ≡ Mine first
  pub alone : HearsNothing cue.mine cue.traffic cue.order
  pub turns : takes_turns (part_at p old.machine).state ≡ true

pub is_turn : (p : ℕ) (first : Bool) (cue : code.Cue) (old : SysState) → IsMachine old → p < length old.machine.parts → old.machine.halted ≡ false → old.machine.ticks < 4000000000
    → cue.mine ≡ its.Mine first → IsCue old.machine.system.conf p (cue_value cue) → takes_turns (part_at p old.machine).state ≡ true → IsTurn p first (cue_value cue) old
is_turn p first cue old is below runs more own can turns =
    record { machine = is; below = below; running = runs; more = more; own = ap slot_value own; alone = can.alone; turns = turns }

module _ (ticks : WorkingTicks) (takes : TakesWorking) (keeps : PassesKeep) (bounds : ActsWithinBounds) (facts : KeepsFactsAlone) where
  module _ (p : ℕ) (first : Bool) (cue : Cue) (work : LoneWork) (event : WholeEvent) (old mid new : SysState) (had got : List ReportLine) (is : IsTurn p first cue old)
      (sees : takes_sight (view_of old.machine.system p) (asks (view_of old.machine.system p) (part_at p old.machine) old.machine.time first) cue.seen ≡ true)
      (done : IsLoneDone p (worked (view_of old.machine.system p) (copies old.machine p) old.machine.time first cue.seen (part_at p old.machine)) work old mid had)
      (event_is : event ≡ event_of (act_beyond work.reach))
      (new_is : new ≡ with_machine (tick_past event (event_met p event mid.machine)) mid)
      (got_is : got ≡ had ++ event_lines mid.machine.ticks event p) where
    abbrev w : Worked
    w = worked (view_of old.machine.system p) (copies old.machine p) old.machine.time first cue.seen (part_at p old.machine)

    turn_done : new ≡ with_machine (work_passed p w old.machine) old
    turn_done = worked_state p w event old mid new done.state (event_is ∙ sym done.event) new_is

    unordered : cue.order ≡ None
    unordered = (alone_in cue.mine first cue.traffic cue.order is.own is.alone).1

    kept : IsKeptBy p (event_of w.act) old.machine (work_passed p w old.machine)
    kept = keeps.working old.machine p w is.running is.below

    pub turn_machine : IsMachine new
    turn_machine =
        machine_kept facts p (with_event cue (event_of w.act)) (event_of w.act) old new (work_passed p w old.machine) is.machine is.below is.running is.more kept
        (ticks old.machine p first (with_event cue (event_of w.act)) w is.below is.own unordered refl is.turns refl (work_bounded bounds old.machine p first cue.seen)).part
        (its_turn bounds old.machine p first cue is.own unordered is.turns) turn_done

    pub turn_system : IsOfSystem old.machine new.machine
    turn_system = of_system p (event_of w.act) old new (work_passed p w old.machine) kept turn_done

    taken_is : takes_cue (view_of old.machine.system p) (part_in old.machine p) cue
        ≡ (takes_sight (view_of old.machine.system p) (asks (view_of old.machine.system p) (part_at p old.machine) old.machine.time first) cue.seen && is_same_event (event_of w.act) cue.whole)
    taken_is = takes old.machine p first cue w is.own (alone_in cue.mine first cue.traffic cue.order is.own is.alone).0 is.turns refl (work_bounded bounds old.machine p first cue.seen)

    its_event : event_of w.act ≡ event
    its_event = done.event ∙ sym event_is

    console_new : console_emissions work.note (memory_of p new.machine) ≡ console_emissions work.note w.after.memory
    console_new = ap (λ (s : SysState). console_emissions work.note (memory_of p s.machine)) turn_done ∙ console_stands p w work.note work.reach old.machine is.below done.alone done.event

    turn_lines : cue.whole ≡ event_of w.act
        → alone_step_lines (view_of old.machine.system p) (part_in old.machine p) cue ≡ map (line_of old.machine.ticks p) (console_emissions work.note (memory_of p new.machine)) ++ got
    turn_lines whole =
        let console : List ReportLine = map (line_of old.machine.ticks p) (console_emissions work.note w.after.memory) in
        (ticks old.machine p first cue w is.below is.own unordered whole is.turns refl (work_bounded bounds old.machine p first cue.seen)).lines
        ∙ ap (λ (front : List ReportLine). front ++ event_lines old.machine.ticks cue.whole p) done.lines
        ∙ append_assoc console had (event_lines old.machine.ticks cue.whole p)
        ∙ ap (λ (e : WholeEvent). console ++ (had ++ event_lines old.machine.ticks e p)) (whole ∙ its_event)
        ∙ ap (λ (n : ℕ). console ++ (had ++ event_lines n event p)) (sym (ap (λ (s : SysState). s.machine.ticks) done.state ∙ (is_traded (traffic_in old.machine p w.act) (with_part p w.after old.machine)).ticks))
        ∙ ap (λ (rest : List ReportLine). console ++ rest) (sym got_is)
        ∙ ap (λ (tale : List Emission). map (line_of old.machine.ticks p) tale ++ got) (sym console_new)

    turn_tick : (b : Bool) → is_same_event event cue.whole ≡ b → length got ≤ most_lines → IsLoneTick (if b then Some work.note else None) p cue old.machine new.machine got
    turn_tick true same few =
        let alike : is_same_event (event_of w.act) cue.whole ≡ true = ap (λ (e : WholeEvent). is_same_event e cue.whole) its_event ∙ same in
        let whole : cue.whole ≡ event_of w.act = same_event (event_of w.act) cue.whole alike in
        record {
          lone = record {
            taken = taken_is ∙ both_true _ _ sees alike;
            part = ap (λ (s : SysState). part_in s.machine p) turn_done
                ∙ (ticks old.machine p first cue w is.below is.own unordered whole is.turns refl (work_bounded bounds old.machine p first cue.seen)).part;
            halted = ap (λ (s : SysState). s.machine.halted) turn_done ∙ kept.halted ∙ sym (ap is_halt whole);
          };
          lines = turn_lines whole;
          readable = subst (λ (s : System). CanBeEmitted work.note (areas_in p (record old.machine { system = s }))) (sym turn_system.system) done.readable;
          few = few;
        }
    turn_tick false other few = taken_is ∙ both_false _ _ (ap (λ (e : WholeEvent). is_same_event e cue.whole) its_event ∙ other)

    pub turn_noted : (noted : Option Note) (b : Bool) → b ≡ is_same_event event cue.whole → noted ≡ (if b then Some work.note else None) → length got ≤ most_lines → IsLoneTick noted p cue old.machine new.machine got
    turn_noted noted b same is_noted few = subst (λ (o : Option Note). IsLoneTick o p cue old.machine new.machine got) (sym is_noted) (turn_tick b (sym same) few)

-- the lines of the work leave room for one more
pub few_room : (p : ℕ) (w : Worked) (work : LoneWork) (old mid : SysState) {got : List ReportLine} → IsLoneDone p w work old mid got → length got < most_lines
few_room p w work old mid done = omega (arith, done.few)

-- a tick that was not done, since the partition may not be shown this
pub not_seen : TakesWorking → ActsWithinBounds → (p : ℕ) (first : Bool) (cue : Cue) (old : SysState) → IsTurn p first cue old
    → takes_sight (view_of old.machine.system p) (asks (view_of old.machine.system p) (part_at p old.machine) old.machine.time first) cue.seen ≡ false
    → takes_cue (view_of old.machine.system p) (part_in old.machine p) cue ≡ false
not_seen takes bounds p first cue old is sees =
    let w : Worked = worked (view_of old.machine.system p) (copies old.machine p) old.machine.time first cue.seen (part_at p old.machine) in
    takes old.machine p first cue w is.own (alone_in cue.mine first cue.traffic cue.order is.own is.alone).0 is.turns refl (work_bounded bounds old.machine p first cue.seen)
    ∙ ap (λ (b : Bool). b && is_same_event (event_of w.act) cue.whole) sees

uncounted_facts : (view : PartitionView) (n : ℕ) (halts : Bool) (ps x : PartitionState) → IsUncounted ps x → AreFacts view n halts ps → AreFacts view n halts x
uncounted_facts view n halts ps x same is =
    let traces : ps.traces.next ≤ n = is.traces in
    let health : ps.health.next ≤ n + flag (halts || is_halted ps.state) = is.health in
    let execution : ps.clocks.execution ≤ n + flag halts = is.execution in
    record {
      traces = omega (arith, traces, ap (λ t. t.next) same.traces);
      health = omega (arith, health, ap (λ t. t.next) same.health, ap (λ (b : Bool). flag (halts || b)) same.awake);
      execution = omega (arith, execution, same.execution);
      loads = subst (λ (k : Kept TraceEntry). HaveEight k.entries) (sym same.traces) is.loads;
      inputs = subst (λ (words : List ℕ). AreLast words view.inputs) (sym same.inputs) is.inputs;
      made = subst (AreEnds view) (sym same.made) is.made;
    }

pub undone_machine : (p : ℕ) (old new : SysState) → IsMachine old → p < length old.machine.parts → IsWorkUndone p old new → IsMachine new
undone_machine p old new is below undone =
    subst IsMachine (sym undone.state) (record {
      shapes = is.shapes;
      fits = is.fits;
      complete = record { parts = length-set old.machine.parts p undone.after ∙ is.complete.parts; channels = is.complete.channels };
      clocked = record { in_frame = is.clocked.in_frame; asked = is.clocked.asked };
      counted = record {
        facts = facts_with old.machine p undone.after is.counted.facts below
            (uncounted_facts (view_of old.machine.system p) old.machine.ticks old.machine.halted (part_at p old.machine) undone.after undone.same (facts_at old p is below));
        time = is.counted.time;
        ticks = is.counted.ticks;
      };
    })

pub undone_system : (p : ℕ) (old new : SysState) → IsWorkUndone p old new → IsOfSystem old.machine new.machine
undone_system p old new undone = record {
  system = ap (λ (s : SysState). s.machine.system) undone.state;
  parts = ap (λ (s : SysState). length s.machine.parts) undone.state ∙ length-set old.machine.parts p undone.after;
}

flag_small : (b : Bool) → flag b ≤ 1
flag_small true = omega arith
flag_small false = omega arith

-- a machine that has not halted, of which a partition takes a tick
pub can_take : (p : ℕ) (old : SysState) → IsMachine old → p < length old.machine.parts → old.machine.halted ≡ false → old.machine.ticks < 4000000000 → CanTake p 1 old
can_take p old is below runs few =
    let its : AreFacts (view_of old.machine.system p) old.machine.ticks false (part_at p old.machine) =
    subst (λ (b : Bool). AreFacts (view_of old.machine.system p) old.machine.ticks b (part_at p old.machine)) runs (facts_at old p is below) in
    let timed : old.machine.time ≤ old.machine.ticks = is.counted.time in
    let traces : (part_at p old.machine).traces.next ≤ old.machine.ticks = its.traces in
    let health : (part_at p old.machine).health.next ≤ old.machine.ticks + flag (is_halted (part_at p old.machine).state) = its.health in
    let execution : (part_at p old.machine).clocks.execution ≤ old.machine.ticks + 0 = its.execution in
    let small : flag (is_halted (part_at p old.machine).state) ≤ 1 = flag_small (is_halted (part_at p old.machine).state) in
    let frame : IsInFrame old.machine.system.conf old.machine.clock old.machine.time = is.clocked.in_frame in
    record {
      partition = below;
      running = runs;
      shapes = is.shapes;
      frame = frame;
      within = omega (arith, frame.before_end);
      asked = is.clocked.asked;
      some = omega arith;
      few = omega (arith, few);
      timed = timed;
      traces = omega (arith, traces);
      health = omega (arith, health, small);
      execution = omega (arith, execution);
      made = its.made;
    }
