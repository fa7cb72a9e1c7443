-- What a hypercall is given, and what serving one leaves and emits.
use Rattle.std.specs.Prelude.{◌≡◌, ℕ, ◌<◌, ◌≤◌, true, IfSome, List, [], ◌∷◌, length}
use Rattle.guest_bus.specs.Memory.{Area, Memory, all_from, bytes_at, is_readable}
use Rattle.health_monitor.specs.declared.effects.Whole.{Whole}
use Rattle.health_monitor.specs.declared.effects.Whole.TheVariants as whole
use Rattle.sparc_step.specs.Registers.{Registers, register_at}
use Rattle.xm_base.specs.declared.limits.TheConstants.{CONSOLE_BYTES}
use Rattle.xm_traces.specs.Ring.{Kept, noted}
use Rattle.xm_traces.specs.declared.entry.TraceEntry.{TraceEntry}
use Rattle.machine_model.specs.Caller.{Acts, Caller, Meets, Served, Upshot}
use Rattle.machine_model.specs.Health.{done_to_all}
use Rattle.machine_model.specs.Machine.{Machine, copies, sight_for}
use Rattle.machine_model.specs.Observed.{observed_by}
use Rattle.machine_model.specs.Partition.{areas_of}
use Rattle.machine_model.specs.Emission as emission
use Rattle.machine_model.specs.Emission.{Act, OwnStill, OwnTraffic, Sight, Emission}
use Rattle.machine_model.specs.Traffic.{Puts, Signals, Still, Takes, Traffic, traffic_as, traffic_of}
use Rattle.machine_model.specs.View.{PartitionView, view_of}
use Rattle.span_model.specs.Passes.{part_at, traded, with_part}
use Rattle.system_state.specs.State.{SysState, areas_in, with_machine}
use Rattle.system_state.specs.declared.call_site.CallSite.{CallSite}
use Rattle.system_state.specs.declared.served.Act as code_act
use Rattle.system_state.specs.declared.served.Act.TheVariants as act
use Rattle.system_state.specs.declared.served.Note.{Note}
use Rattle.system_state.specs.declared.served.Note.TheVariants as note
use Rattle.system_state.specs.declared.served.Served as code

-- what a partition that calls is shown of the rest of the system
abbrev pub sight_at : ℕ → Machine → Sight
sight_at p g = sight_for g (view_of g.system p) (observed_by (view_of g.system p) (part_at p g).core)

-- a partition that calls, as the call is given it
unfoldable pub caller_of : CallSite → SysState → Caller
caller_of site sys = record {
  view = view_of sys.machine.system site.part;
  state = part_at site.part sys.machine;
  contents = copies sys.machine site.part;
  time = sys.machine.time;
  sight = sight_at site.part sys.machine;
  pc = site.pc;
  npc = site.npc;
}

-- partition p as it calls, from this program counter and the next
unfoldable pub caller_at : ℕ → ℕ → ℕ → SysState → Caller
caller_at p pc npc sys = record {
  view = view_of sys.machine.system p;
  state = part_at p sys.machine;
  contents = copies sys.machine p;
  time = sys.machine.time;
  sight = sight_at p sys.machine;
  pc = pc;
  npc = npc;
}

-- the partition that calls is there
abbrev pub IsCaller : CallSite → SysState → Type 0
IsCaller site sys = site.part < length sys.machine.parts

-- all of this many bytes may be read by the caller
abbrev pub MayRead : Caller → ℕ → ℕ → Type 0
MayRead caller address size = all_from (is_readable (areas_of caller.view)) address size ≡ true

-- what a note reports, over the memory that the call leaves
abbrev pub emissions_by : Note → Memory → List Emission
emissions_by note.Nothing memory = []
emissions_by (note.Console at size) memory = emission.Console (bytes_at memory at size) ∷ []
emissions_by (note.Trace entry) memory = emission.Trace entry.bits entry.load ∷ []
emissions_by (note.Put chan at size) memory = []
emissions_by (note.Take chan) memory = []
emissions_by (note.Saw at size) memory = []
emissions_by note.NotKept memory = []
emissions_by (note.Signal number) memory = []

-- the traffic that a note of partition p records
abbrev pub traffic_by : ℕ → Note → Memory → Traffic
traffic_by p note.Nothing memory = Still
traffic_by p (note.Console at size) memory = Still
traffic_by p (note.Trace entry) memory = Still
traffic_by p (note.Put chan at size) memory = Puts chan (bytes_at memory at size)
traffic_by p (note.Take chan) memory = Takes chan
traffic_by p (note.Saw at size) memory = Still
traffic_by p note.NotKept memory = Still
traffic_by p (note.Signal number) memory = Signals p number

-- what a note reports of what the call was shown
abbrev pub sight_by : Note → Memory → Sight
sight_by note.Nothing memory = emission.Unseen
sight_by (note.Console at size) memory = emission.Unseen
sight_by (note.Trace entry) memory = emission.Unseen
sight_by (note.Put chan at size) memory = emission.Unseen
sight_by (note.Take chan) memory = emission.Unseen
sight_by (note.Saw at size) memory = emission.Words (bytes_at memory at size)
sight_by note.NotKept memory = emission.NotKept
sight_by (note.Signal number) memory = emission.Unseen

-- the bytes that a note names may be read; those for the console are not too many, and at least one
abbrev pub CanBeEmitted : Note → List Area → Type 0
CanBeEmitted note.Nothing areas = Unit {0}
CanBeEmitted (note.Console at size) areas = (0 < size) × (size ≤ CONSOLE_BYTES) × (all_from (is_readable areas) at size ≡ true)
CanBeEmitted (note.Trace entry) areas = Unit {0}
CanBeEmitted (note.Put chan at size) areas = all_from (is_readable areas) at size ≡ true
CanBeEmitted (note.Take chan) areas = Unit {0}
CanBeEmitted (note.Saw at size) areas = all_from (is_readable areas) at size ≡ true
CanBeEmitted note.NotKept areas = Unit {0}
CanBeEmitted (note.Signal number) areas = Unit {0}

-- where a partition with these registers makes an observing call, the answer goes to this address
abbrev pub WantsAt : PartitionView → Registers → ℕ → Type 0
WantsAt view core at = IfSome (observed_by view core) (λ call. at ≡ call.address)

-- the bytes that a note names stand where the arguments of the call say: those for the console are b bytes at a, those of a message c bytes at b, and
-- those that the caller is shown stand where its observing call wants them
abbrev pub AreAsked : Note → PartitionView → Registers → Type 0
AreAsked note.Nothing view core = Unit {0}
AreAsked (note.Console at size) view core = (at ≡ register_at core 9) × (size ≡ register_at core 10)
AreAsked (note.Trace entry) view core = Unit {0}
AreAsked (note.Put chan at size) view core = (at ≡ register_at core 10) × (size ≡ register_at core 11)
AreAsked (note.Take chan) view core = Unit {0}
AreAsked (note.Saw at size) view core = WantsAt view core at
AreAsked note.NotKept view core = Unit {0}
AreAsked (note.Signal number) view core = Unit {0}

-- the entry that a note has is the one that was entered in the traces
abbrev pub IsEntered : Note → (before after : Kept TraceEntry) → Type 0
IsEntered note.Nothing before after = Unit {0}
IsEntered (note.Console at size) before after = Unit {0}
IsEntered (note.Trace entry) before after = after ≡ noted entry before
IsEntered (note.Put chan at size) before after = Unit {0}
IsEntered (note.Take chan) before after = Unit {0}
IsEntered (note.Saw at size) before after = Unit {0}
IsEntered note.NotKept before after = Unit {0}
IsEntered (note.Signal number) before after = Unit {0}

-- the upshot that is reported
abbrev pub upshot_of : code_act.Act → Upshot
upshot_of act.Nothing = Acts emission.Nothing
upshot_of (act.Upon id order) = Acts (emission.Upon id order)
upshot_of (act.Ask plan) = Acts (emission.Plans (emission.Asked plan))
upshot_of (act.Whole event) = Acts (done_to_all event)
upshot_of (act.Event event word) = Meets event word

-- an order that is reported is one on a partition that there is
abbrev pub IsUponOne : code_act.Act → SysState → Type 0
IsUponOne act.Nothing sys = Unit {0}
IsUponOne (act.Upon id order) sys = id < length sys.machine.parts
IsUponOne (act.Ask plan) sys = Unit {0}
IsUponOne (act.Whole event) sys = Unit {0}
IsUponOne (act.Event event word) sys = Unit {0}

-- an event of the whole system does something
abbrev pub DoesSomething : Whole → Type 0
DoesSomething whole.Nothing = ⊥
DoesSomething (whole.Reset mode) = Unit {0}
DoesSomething whole.Halt = Unit {0}
DoesSomething whole.Maintenance = Unit {0}

-- an act with an event of the whole system has one that does something; doing nothing is an act of its own
abbrev pub HasEvent : code_act.Act → Type 0
HasEvent act.Nothing = Unit {0}
HasEvent (act.Upon id order) = Unit {0}
HasEvent (act.Ask plan) = Unit {0}
HasEvent (act.Whole event) = DoesSomething event
HasEvent (act.Event event word) = Unit {0}

-- an upshot but for its traffic, which is done and noted
abbrev pub without_traffic : Act → Act
without_traffic emission.Nothing = emission.Nothing
without_traffic (emission.Trades traffic) = emission.Nothing
without_traffic (emission.Upon id order) = emission.Upon id order
without_traffic (emission.Plans change) = emission.Plans change
without_traffic (emission.UponAll event) = emission.UponAll event

abbrev pub untraded : Upshot → Upshot
untraded (Acts act) = Acts (without_traffic act)
untraded (Meets event word) = Meets event word

-- its traffic, under the caller's names
abbrev pub own_traffic : Upshot → OwnTraffic
own_traffic (Acts act) = traffic_of act
own_traffic (Meets event word) = OwnStill

-- a call of partition p that was shown this had the outcome that is stated: what it leaves of the caller and of the channels, what it emits, and how it reaches
-- beyond the caller; its note has the very entry that it made, and the places that the call names
pub record IsServed (p : ℕ) (sight : Sight) (s : Served) (answer : code.Served) (old new : SysState) : Type 0 where
  pub state : new ≡ with_machine (traded (traffic_by p answer.note s.after.memory) (with_part p s.after old.machine)) old
  pub emitted : s.emitted ≡ emissions_by answer.note s.after.memory
  pub upshot : untraded s.upshot ≡ upshot_of answer.act
  pub traffic : traffic_as old.machine.system.conf p (own_traffic s.upshot) ≡ traffic_by p answer.note s.after.memory
  pub seen : sight ≡ sight_by answer.note s.after.memory
  pub readable : CanBeEmitted answer.note (areas_in p old.machine)
  pub one : IsUponOne answer.act old
  pub asked : AreAsked answer.note (view_of old.machine.system p) (part_at p old.machine).core
  pub entered : IsEntered answer.note (part_at p old.machine).traces s.after.traces
  pub event : HasEvent answer.act
