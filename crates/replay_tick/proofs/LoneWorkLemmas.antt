-- The work of one partition in isolation, as it is done on the whole system.
use Rattle.std.proofs.Common.{◌≡◌, ℕ, ◌+◌, ◌<◌, ◌≤◌, Bool, true, false, List, [], ◌++◌, length, map, Option, None, Some, refl, sym, ap, ◌∙◌, subst, arith}
use Rattle.std.proofs.lemmas.List.{get_or-set_same, length-set, set-set}
use Rattle.std.proofs.lemmas.Option.{same_Some}
use Rattle.std.specs.Prelude.{if◌then◌else◌}
use Rattle.guest_bus.specs.Memory.{Area}
use Rattle.health_monitor.specs.Monitor.{event_of_type}
use Rattle.sparc_step.specs.Execution.{Turned}
use Rattle.sparc_step.specs.declared.outcome.Turn.{Turn}
use Rattle.sparc_step.specs.declared.outcome.Turn.TheVariants.{Call, Trap}
use Rattle.virt_traps.specs.Settled.{settled}
use Rattle.virt_traps.specs.Virtual.{due}
use Rattle.xm_base.specs.declared.partition.State.{State}
use Rattle.xm_base.specs.declared.partition.State.TheVariants.{Ready, Idle, Suspended, Halted}
use Rattle.xm_ports.specs.Channels.{Content}
use Rattle.system_state.specs.Serving.{CanBeEmitted, caller_at, without_traffic}
use Rattle.system_state.specs.State.{SysState, areas_in, memory_of, with_machine}
use Rattle.system_state.specs.lemmas.StateLemmas.{part_set}
use Rattle.system_state.specs.declared.served.Note.{Note}
use Rattle.system_state.specs.declared.served.Note.TheVariants as note
use Rattle.xm_report.specs.Report.{ReportLine}
use Rattle.tick_steps.specs.lemmas.PartLemmas.{part_put_back}
use Rattle.machine_model.specs.Caller.{Caller}
use Rattle.machine_model.specs.Facts.{AreEnds}
use Rattle.machine_model.specs.Health.{Worked, event_handled, interrupt_delivered, quiet}
use Rattle.machine_model.specs.LocalTick.{by_turn, called, clocked, delivered_or_executed, executed_in_tick, goes_on, turned_state, with_interrupts, worked, worked_if}
use Rattle.machine_model.specs.Machine.{Machine, copies, sight_for}
use Rattle.machine_model.specs.Observed.{Observation, asked_by, asks, if_call, observed_by, unless_delivered}
use Rattle.machine_model.specs.Partition.{PartitionState, areas_of, execution_looked_at, hardware_looked_at, is_halted, takes_turns}
use Rattle.machine_model.specs.Emission as emission
use Rattle.machine_model.specs.Emission.{Act, NotKept, Sight, Unseen, Words, line_of}
use Rattle.machine_model.specs.View.{PartitionView, view_of}
use Rattle.machine_model.specs.Whole.{event_of}
use Rattle.span_model.specs.Meeting.{awake}
use Rattle.span_model.specs.Passes.{part_at, traded, traffic_in, with_part}
use Rattle.replay_model.specs.Taking.{is_no_sight, takes_sight}
use Rattle.replay_tick.specs.lemmas.LoneWorkTerms.{IsLoneDone, IsLoneWork, IsUncounted, IsWorkUndone}
use Rattle.tick_steps.specs.lemmas.SpanTerms.{CanTake}
use Rattle.tick_steps.specs.Work.{IsTickWorked, EmitsAlone, console_emissions}
use Rattle.tick_steps.specs.declared.beyond.Beyond.{Beyond}
use Rattle.tick_steps.specs.declared.beyond.Beyond.TheVariants as beyond
use Rattle.replay_tick.specs.declared.work.LoneWork.{LoneWork}
use Rattle.replay_tick.proofs.PutLemmas.{put_then}

-- an act has the event that it has but for its traffic
event_plain : (act : Act) → event_of (without_traffic act) ≡ event_of act
event_plain emission.Nothing = refl
event_plain (emission.Trades traffic) = refl
event_plain (emission.Upon id order) = refl
event_plain (emission.Plans change) = refl
event_plain (emission.UponAll event) = refl

-- work on the whole system is the work of the partition in isolation
pub lone_done : (p : ℕ) (w : Worked) (a_note : Note) (reach : Beyond) (old new : SysState) (got : List ReportLine)
    → IsTickWorked p w a_note reach old new got → EmitsAlone a_note reach → length got ≤ 4 → IsLoneDone p w (record { note = a_note; reach = reach }) old new got
lone_done p w a_note reach old new got worked alone few = record {
  state = worked.state;
  lines = worked.lines;
  event = sym (event_plain w.act) ∙ ap event_of worked.act;
  readable = worked.readable;
  alone = alone;
  few = few;
}

-- nothing is shown
pub unseen_is : (seen : Sight) → is_no_sight seen ≡ true → seen ≡ Unseen
unseen_is Unseen is = refl
unseen_is NotKept is = absurd cc
unseen_is (Words bytes) is = absurd cc

-- a caller that is shown nothing, where it asks for nothing
pub unseeing : (p pc npc : ℕ) (seen : Sight) (sys : SysState) → observed_by (view_of sys.machine.system p) (part_at p sys.machine).core ≡ None → is_no_sight seen ≡ true
    → called (record (caller_at p pc npc sys) { sight = seen }) ≡ called (caller_at p pc npc sys)
unfolding caller_at
unseeing p pc npc seen sys none is =
    ap (λ (sight : Sight). called (record (caller_at p pc npc sys) { sight = sight }))
    (unseen_is seen is ∙ sym (ap (λ (asked : Option Observation). sight_for sys.machine (view_of sys.machine.system p) asked) none))

-- work that was not done changed nothing
pub undone_same : (p : ℕ) (old new : SysState) → new ≡ old → IsWorkUndone p old new
undone_same p old new is = record {
  after = part_at p old.machine;
  state = is ∙ sym (part_put_back p old);
  same = record { traces = refl; health = refl; execution = refl; inputs = refl; made = refl; awake = refl };
}

-- a system in which the partition's own state was changed before
pub undone_after : (p : ℕ) (x : PartitionState) (old mid new : SysState) → p < length old.machine.parts → mid ≡ with_machine (with_part p x old.machine) old
    → IsUncounted (part_at p old.machine) x → IsWorkUndone p mid new → IsWorkUndone p old new
undone_after p x old mid new below is same undone = record {
  after = undone.after;
  state = undone.state
      ∙ ap (λ (s : SysState). with_machine (with_part p undone.after s.machine) s) is
      ∙ ap (λ (parts : List PartitionState). with_machine (record old.machine { parts = parts }) old) (set-set old.machine.parts p x undone.after);
  same = uncounted_then (part_at p old.machine) x undone.after same
      (subst (λ (ps : PartitionState). IsUncounted ps undone.after) (ap (λ (s : SysState). part_at p s.machine) is ∙ get_or-set_same old.machine.parts p x _ below) undone.same);
}
  where
    uncounted_then : (a b c : PartitionState) → IsUncounted a b → IsUncounted b c → IsUncounted a c
    uncounted_then a b c one other = record {
      traces = other.traces ∙ one.traces;
      health = other.health ∙ one.health;
      execution = other.execution ∙ one.execution;
      inputs = other.inputs ∙ one.inputs;
      made = other.made ∙ one.made;
      awake = other.awake ∙ one.awake;
    }

-- work that goes by another name
pub lone_as : (p : ℕ) (work : Option LoneWork) (asked question : Option Observation) (seen : Sight) (w v : Worked) (old new : SysState) (got : List ReportLine)
    → asked ≡ question → w ≡ v → IsLoneWork work p asked seen w old new got → IsLoneWork work p question seen v old new got
lone_as p work asked question seen w v old new got same_asked same_work is =
    subst (λ (x : Worked). IsLoneWork work p question seen x old new got) same_work
    (subst (λ (o : Option Observation). IsLoneWork work p o seen w old new got) same_asked is)

-- work on a system in which the partition's own state was changed before
pub lone_with : (p : ℕ) (x : PartitionState) (work : Option LoneWork) (asked : Option Observation) (seen : Sight) (w : Worked) (old mid new : SysState) (got : List ReportLine)
    → p < length old.machine.parts → mid ≡ with_machine (with_part p x old.machine) old → IsUncounted (part_at p old.machine) x
    → IsLoneWork work p asked seen w mid new got → IsLoneWork work p asked seen w old new got
lone_with p x work asked seen w old mid new got below is same given = by work given
  where
    by : (o : Option LoneWork) → IsLoneWork o p asked seen w mid new got → IsLoneWork o p asked seen w old new got
    by (Some d) g = (
      ap (λ (s : SysState). takes_sight (view_of s.machine.system p) asked seen) (sym is) ∙ g.0,
      record {
        state = g.1.state
            ∙ ap (λ (s : SysState). with_machine (traded (traffic_in s.machine p w.act) (with_part p w.after s.machine)) s) is
            ∙ ap (λ (parts : List PartitionState). with_machine (traded (traffic_in old.machine p w.act) (record old.machine { parts = parts })) old) (set-set old.machine.parts p x w.after);
        lines = ap (λ (s : SysState). map (line_of s.machine.ticks p) w.emitted) (sym is)
            ∙ g.1.lines
            ∙ ap (λ (s : SysState). map (line_of s.machine.ticks p) (console_emissions d.note w.after.memory) ++ got) is;
        event = g.1.event;
        readable = subst (λ (s : SysState). CanBeEmitted d.note (areas_in p s.machine)) is g.1.readable;
        alone = g.1.alone;
        few = g.1.few;
      },
    )
    by None g = (ap (λ (s : SysState). takes_sight (view_of s.machine.system p) asked seen) (sym is) ∙ g.0, undone_after p x old mid new below is same g.1)

-- an interrupt that is delivered, or none
pub delivers : (o : Option ℕ) (enabled : Bool) (n : ℕ) (view : PartitionView) (contents : List (Option Content)) (time : ℕ) (seen : Sight) (ps : PartitionState)
    → (if enabled then o else None) ≡ Some n
    → (None ≡ unless_delivered o enabled view ps) × (interrupt_delivered view time n (clocked ps) ≡ delivered_or_executed o enabled view contents time seen ps)
delivers None true n view contents time seen ps is = absurd cc
delivers None false n view contents time seen ps is = absurd cc
delivers (Some k) true n view contents time seen ps is = (refl, ap (λ (i : ℕ). interrupt_delivered view time i (clocked ps)) (sym (same_Some k n is)))
delivers (Some k) false n view contents time seen ps is = absurd cc

pub executes : (o : Option ℕ) (enabled : Bool) (view : PartitionView) (contents : List (Option Content)) (time : ℕ) (seen : Sight) (ps : PartitionState)
    → (if enabled then o else None) ≡ None
    → (asked_by view ps ≡ unless_delivered o enabled view ps) × (executed_in_tick view contents time seen ps ≡ delivered_or_executed o enabled view contents time seen ps)
executes None true view contents time seen ps is = (refl, refl)
executes None false view contents time seen ps is = (refl, refl)
executes (Some k) true view contents time seen ps is = absurd cc
executes (Some k) false view contents time seen ps is = (refl, refl)

-- a partition that is awake asks what it asks
asks_awake : (o : Option ℕ) (enabled : Bool) (view : PartitionView) (ps : PartitionState) → unless_delivered o enabled view (awake ps) ≡ unless_delivered o enabled view ps
unfolding asked_by
asks_awake None enabled view ps = refl
asks_awake (Some n) true view ps = refl
asks_awake (Some n) false view ps = refl

-- the interrupts of a tick, and what wakes, change nothing that is counted
pub met_uncounted : (time : ℕ) (first : Bool) (ps : PartitionState) → IsUncounted ps (with_interrupts time first ps)
unfolding with_interrupts hardware_looked_at execution_looked_at
met_uncounted time first ps = record { traces = refl; health = refl; execution = refl; inputs = refl; made = refl; awake = refl }

turning_awake : (state : State) → takes_turns state ≡ true → false ≡ is_halted state
turning_awake Ready turns = refl
turning_awake Idle turns = refl
turning_awake Suspended turns = absurd cc
turning_awake Halted turns = absurd cc

woken_uncounted : (time : ℕ) (first : Bool) (ps : PartitionState) → takes_turns ps.state ≡ true → IsUncounted ps (awake (with_interrupts time first ps))
unfolding with_interrupts hardware_looked_at execution_looked_at
woken_uncounted time first ps turns = record { traces = refl; health = refl; execution = refl; inputs = refl; made = refl; awake = turning_awake ps.state turns }

-- a partition that was woken goes on
pub work_went : (p : ℕ) (first : Bool) (work : Option LoneWork) (seen : Sight) (old met woken new : SysState) (got : List ReportLine) → p < length old.machine.parts
    → takes_turns (part_at p old.machine).state ≡ true
    → met ≡ with_machine (with_part p (with_interrupts old.machine.time first (part_at p old.machine)) old.machine) old
    → goes_on (part_at p met.machine).state first (due (part_at p met.machine).traps) ≡ true
    → woken ≡ with_machine (with_part p (awake (part_at p met.machine)) met.machine) met
    → IsLoneWork work p (unless_delivered (due (part_at p woken.machine).traps) (part_at p woken.machine).traps.enabled (view_of woken.machine.system p) (part_at p woken.machine)) seen
    (delivered_or_executed (due (part_at p woken.machine).traps) (part_at p woken.machine).traps.enabled (view_of woken.machine.system p) (copies woken.machine p) woken.machine.time seen (part_at p woken.machine)) woken new got
    → IsLoneWork work p (asks (view_of old.machine.system p) (part_at p old.machine) old.machine.time first) seen
    (worked (view_of old.machine.system p) (copies old.machine p) old.machine.time first seen (part_at p old.machine)) old new got
unfolding asks worked copies
work_went p first work seen old met woken new got below turns met_is goes woken_is given =
    let view : PartitionView = view_of old.machine.system p in
    let ready : PartitionState = with_interrupts old.machine.time first (part_at p old.machine) in
    let ready_is : part_at p met.machine ≡ ready = part_set old met p ready below met_is in
    let now : woken ≡ with_machine (with_part p (awake ready) old.machine) old = put_then awake p ready old met woken below met_is woken_is in
    let there : part_at p woken.machine ≡ awake ready = part_set old woken p (awake ready) below now in
    let on_it : goes_on ready.state first (due ready.traps) ≡ true = ap (λ (x : PartitionState). goes_on x.state first (due x.traps)) (sym ready_is) ∙ goes in
    lone_with p (awake ready) work _ seen _ old woken new got below now (woken_uncounted old.machine.time first (part_at p old.machine) turns)
    (lone_as p work _ _ seen _ _ woken new got
    (ap (λ (x : PartitionState). unless_delivered (due x.traps) x.traps.enabled (view_of woken.machine.system p) x) there
    ∙ ap (λ (s : SysState). unless_delivered (due ready.traps) ready.traps.enabled (view_of s.machine.system p) (awake ready)) now
    ∙ asks_awake (due ready.traps) ready.traps.enabled view ready
    ∙ sym (ap (λ (b : Bool). if b then unless_delivered (due ready.traps) ready.traps.enabled view ready else None) on_it))
    (ap (λ (x : PartitionState). delivered_or_executed (due x.traps) x.traps.enabled (view_of woken.machine.system p) (copies woken.machine p) woken.machine.time seen x) there
    ∙ ap (λ (s : SysState). delivered_or_executed (due ready.traps) ready.traps.enabled (view_of s.machine.system p) (copies s.machine p) s.machine.time seen (awake ready)) now
    ∙ sym (ap (λ (b : Bool). worked_if b view (copies old.machine p) old.machine.time seen ready) on_it))
    given)

-- one that nothing wakes does nothing
pub work_stays : (p : ℕ) (first : Bool) (work : Option LoneWork) (seen : Sight) (old met : SysState) → p < length old.machine.parts
    → met ≡ with_machine (with_part p (with_interrupts old.machine.time first (part_at p old.machine)) old.machine) old
    → goes_on (part_at p met.machine).state first (due (part_at p met.machine).traps) ≡ false
    → work ≡ (if is_no_sight seen then Some (record { note = note.Nothing; reach = beyond.Nothing }) else None)
    → IsLoneWork work p (asks (view_of old.machine.system p) (part_at p old.machine) old.machine.time first) seen
    (worked (view_of old.machine.system p) (copies old.machine p) old.machine.time first seen (part_at p old.machine)) old met []
unfolding asks worked
work_stays p first work seen old met below met_is stays is =
    let view : PartitionView = view_of old.machine.system p in
    let ready : PartitionState = with_interrupts old.machine.time first (part_at p old.machine) in
    let ready_is : part_at p met.machine ≡ ready = part_set old met p ready below met_is in
    let not_on : goes_on ready.state first (due ready.traps) ≡ false = ap (λ (x : PartitionState). goes_on x.state first (due x.traps)) (sym ready_is) ∙ stays in
    lone_as p work None _ seen (quiet ready) _ old met []
    (sym (ap (λ (b : Bool). if b then unless_delivered (due ready.traps) ready.traps.enabled view ready else None) not_on))
    (sym (ap (λ (b : Bool). worked_if b view (copies old.machine p) old.machine.time seen ready) not_on))
    (subst (λ (o : Option LoneWork). IsLoneWork o p None seen (quiet ready) old met []) (sym is) (at (is_no_sight seen) refl))
  where
    at : (b : Bool) → is_no_sight seen ≡ b
        → IsLoneWork (if b then Some (record { note = note.Nothing; reach = beyond.Nothing }) else None) p None seen (quiet (with_interrupts old.machine.time first (part_at p old.machine))) old met []
    at true none = (none, record { state = met_is; lines = refl; event = refl; readable = tt; alone = tt; few = omega arith })
    at false none = (none, record { after = with_interrupts old.machine.time first (part_at p old.machine); state = met_is; same = met_uncounted old.machine.time first (part_at p old.machine) })

-- the areas of a partition
areas_same : (p : ℕ) (g : Machine) → areas_in p g ≡ areas_of (view_of g.system p)
unfolding areas_of view_of
areas_same p g = refl

-- an instruction was done
pub turned_work : (p : ℕ) (turn : Turn) (work : Option LoneWork) (asked : Option Observation) (seen : Sight) (w : Worked) (old mid new : SysState) (got : List ReportLine) → p < length old.machine.parts
    → turn ≡ (settled (areas_in p old.machine) (part_at p old.machine).core (memory_of p old.machine)).turn
    → mid ≡ with_machine (with_part p (turned_state (settled (areas_in p old.machine) (part_at p old.machine).core (memory_of p old.machine)) (part_at p old.machine)) old.machine) old
    → asked ≡ if_call turn (view_of old.machine.system p) (part_at p mid.machine).core
    → w ≡ by_turn turn (view_of old.machine.system p) (copies old.machine p) old.machine.time seen (part_at p old.machine) (part_at p mid.machine)
    → IsLoneWork work p asked seen w mid new got
    → IsLoneWork work p (asked_by (view_of old.machine.system p) (part_at p old.machine)) seen
    (executed_in_tick (view_of old.machine.system p) (copies old.machine p) old.machine.time seen (part_at p old.machine)) old new got
unfolding asked_by executed_in_tick
turned_work p turn work asked seen w old mid new got below turn_is mid_is asked_is w_is given =
    let view : PartitionView = view_of old.machine.system p in
    let ps : PartitionState = part_at p old.machine in
    let t : Turned = settled (areas_of view) ps.core ps.memory in
    let same : settled (areas_in p old.machine) ps.core ps.memory ≡ t = ap (λ (areas : List Area). settled areas ps.core ps.memory) (areas_same p old.machine) in
    let came : turn ≡ t.turn = turn_is ∙ ap (λ (x : Turned). x.turn) same in
    let there : part_at p mid.machine ≡ turned_state t ps = part_set old mid p _ below mid_is ∙ ap (λ (x : Turned). turned_state x ps) same in
    lone_with p (turned_state (settled (areas_in p old.machine) ps.core ps.memory) ps) work _ seen _ old mid new got below mid_is
    (record { traces = refl; health = refl; execution = refl; inputs = refl; made = refl; awake = refl })
    (lone_as p work asked _ seen w _ mid new got
    (asked_is ∙ ap (λ (x : PartitionState). if_call turn view x.core) there ∙ ap (λ (u : Turn). if_call u view t.core) came)
    (w_is
    ∙ ap (λ (x : PartitionState). by_turn turn view (copies old.machine p) old.machine.time seen ps x) there
    ∙ ap (λ (u : Turn). by_turn u view (copies old.machine p) old.machine.time seen ps (turned_state t ps)) came)
    given)

-- one that trapped
pub trap_as : (p type pc : ℕ) (x : PartitionState) (seen : Sight) (old mid : SysState) → mid ≡ with_machine (with_part p x old.machine) old → pc ≡ (part_at p old.machine).core.pc
    → event_handled (view_of mid.machine.system p) mid.machine.time (event_of_type type) pc (Some type) (clocked (part_at p mid.machine))
    ≡ by_turn (Trap type) (view_of old.machine.system p) (copies old.machine p) old.machine.time seen (part_at p old.machine) (part_at p mid.machine)
trap_as p type pc x seen old mid is pc_is =
    ap (λ (s : SysState). event_handled (view_of s.machine.system p) s.machine.time (event_of_type type) pc (Some type) (clocked (part_at p mid.machine))) is
    ∙ ap (λ (k : ℕ). event_handled (view_of old.machine.system p) old.machine.time (event_of_type type) k (Some type) (clocked (part_at p mid.machine))) pc_is

-- one that called
pub observed_as : (p : ℕ) (x : PartitionState) (old mid : SysState) → mid ≡ with_machine (with_part p x old.machine) old
    → observed_by (view_of mid.machine.system p) (part_at p mid.machine).core ≡ if_call Call (view_of old.machine.system p) (part_at p mid.machine).core
observed_as p x old mid is = ap (λ (s : SysState). observed_by (view_of s.machine.system p) (part_at p mid.machine).core) is

-- partition p of a machine as it calls, where it is shown this
abbrev calls_with : Machine → ℕ → PartitionState → Sight → ℕ → ℕ → Caller
calls_with g p state seen pc npc = record { view = view_of g.system p; state = state; contents = copies g p; time = g.time; sight = seen; pc = pc; npc = npc }

pub call_as : (p pc npc : ℕ) (x : PartitionState) (seen : Sight) (old mid : SysState) → mid ≡ with_machine (with_part p x old.machine) old
    → pc ≡ (part_at p old.machine).core.pc → npc ≡ (part_at p old.machine).core.npc
    → called (record (caller_at p pc npc mid) { sight = seen })
    ≡ by_turn Call (view_of old.machine.system p) (copies old.machine p) old.machine.time seen (part_at p old.machine) (part_at p mid.machine)
unfolding caller_at copies
call_as p pc npc x seen old mid is pc_is npc_is =
    ap (λ (s : SysState). called (calls_with s.machine p (part_at p mid.machine) seen pc npc)) is
    ∙ ap (λ (k : ℕ). called (calls_with old.machine p (part_at p mid.machine) seen k npc)) pc_is
    ∙ ap (λ (k : ℕ). called (calls_with old.machine p (part_at p mid.machine) seen (part_at p old.machine).core.pc k)) npc_is

-- work that adds no lines
pub lone_silent : (p : ℕ) (work : Option LoneWork) (asked : Option Observation) (seen : Sight) (w : Worked) (old new : SysState) (had : List ReportLine) → had ≡ []
    → IsLoneWork work p asked seen w old new [] → IsLoneWork work p asked seen w old new had
lone_silent p work asked seen w old new had empty is = subst (λ (got : List ReportLine). IsLoneWork work p asked seen w old new got) (sym empty) is

-- a call that asks for nothing and is shown nothing
pub unseeing_done : (p pc npc : ℕ) (seen : Sight) (a_note : Note) (reach : Beyond) (old new : SysState) (got : List ReportLine)
    → observed_by (view_of old.machine.system p) (part_at p old.machine).core ≡ None → is_no_sight seen ≡ true
    → IsTickWorked p (called (caller_at p pc npc old)) a_note reach old new got → EmitsAlone a_note reach → length got ≤ 4
    → IsLoneWork (Some (record { note = a_note; reach = reach })) p None seen (called (record (caller_at p pc npc old) { sight = seen })) old new got
unseeing_done p pc npc seen a_note reach old new got none is worked alone few = (
  is,
  subst (λ (w : Worked). IsLoneDone p w (record { note = a_note; reach = reach }) old new got) (sym (unseeing p pc npc seen old none is))
      (lone_done p (called (caller_at p pc npc old)) a_note reach old new got worked alone few),
)

-- what a tick needs of a partition is not changed by what leaves all that is counted
pub uncounted_takes : (p : ℕ) (x : PartitionState) (old mid : SysState) → CanTake p 1 old → mid ≡ with_machine (with_part p x old.machine) old
    → IsUncounted (part_at p old.machine) x → CanTake p 1 mid
uncounted_takes p x old mid can is same =
    let traces : (part_at p old.machine).traces.next ≤ old.machine.ticks = can.traces in
    let health : (part_at p old.machine).health.next ≤ old.machine.ticks + 1 = can.health in
    let execution : (part_at p old.machine).clocks.execution ≤ old.machine.ticks = can.execution in
    let there : part_at p (with_part p x old.machine) ≡ x = part_set old (with_machine (with_part p x old.machine) old) p x can.partition refl in
    subst (CanTake p 1) (sym is) (record {
      partition = subst (λ (n : ℕ). p < n) (sym (length-set old.machine.parts p x)) can.partition;
      running = can.running;
      shapes = can.shapes;
      frame = can.frame;
      within = can.within;
      asked = can.asked;
      some = can.some;
      few = can.few;
      timed = can.timed;
      traces = omega (arith, traces, ap (λ (y : PartitionState). y.traces.next) there, ap (λ t. t.next) same.traces);
      health = omega (arith, health, ap (λ (y : PartitionState). y.health.next) there, ap (λ t. t.next) same.health);
      execution = omega (arith, execution, ap (λ (y : PartitionState). y.clocks.execution) there, same.execution);
      made = subst (λ (made : List Bool). AreEnds (view_of old.machine.system p) made) (sym (ap (λ (y : PartitionState). y.made) there ∙ same.made)) can.made;
    })

-- a partition that met the interrupts of a tick takes its turn as before, and can take the tick once it is awake
pub turns_met : (p : ℕ) (first : Bool) (old met : SysState) → p < length old.machine.parts
    → met ≡ with_machine (with_part p (with_interrupts old.machine.time first (part_at p old.machine)) old.machine) old
    → takes_turns (part_at p old.machine).state ≡ true → takes_turns (part_at p met.machine).state ≡ true
unfolding with_interrupts hardware_looked_at execution_looked_at
turns_met p first old met below is turns = ap (λ (x : PartitionState). takes_turns x.state) (part_set old met p _ below is) ∙ turns

pub woken_takes : (p : ℕ) (first : Bool) (old met woken : SysState) → CanTake p 1 old → takes_turns (part_at p old.machine).state ≡ true
    → met ≡ with_machine (with_part p (with_interrupts old.machine.time first (part_at p old.machine)) old.machine) old
    → woken ≡ with_machine (with_part p (awake (part_at p met.machine)) met.machine) met → CanTake p 1 woken
woken_takes p first old met woken can turns met_is woken_is =
    uncounted_takes p (awake (with_interrupts old.machine.time first (part_at p old.machine))) old woken can
    (put_then awake p (with_interrupts old.machine.time first (part_at p old.machine)) old met woken can.partition met_is woken_is)
    (woken_uncounted old.machine.time first (part_at p old.machine) turns)
