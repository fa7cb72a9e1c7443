-- One partition's part of a tick: interrupts, then the delivery of one, an instruction or a hypercall, and the event that it met.
use Rattle.std.specs.Prelude.{ℕ, ◌+◌, ◌==◌, ◌||◌, Bool, true, false, if◌then◌else◌, List, [], ◌++◌, map, Option, Some, None, is_some, slice_index_or}
use Rattle.std.specs.List.{flat_map}
use Rattle.sparc_step.specs.Execution.{Turned}
use Rattle.sparc_step.specs.declared.outcome.Turn.{Turn}
use Rattle.sparc_step.specs.declared.outcome.Turn.TheVariants.{Went, Trap, Call}
use Rattle.virt_traps.specs.Settled.{settled}
use Rattle.virt_traps.specs.Virtual.{due}
use Rattle.xm_base.specs.declared.partition.State.{State}
use Rattle.xm_base.specs.declared.partition.State.TheVariants.{Ready, Idle, Suspended, Halted}
use Rattle.xm_ports.specs.Channels.{Content}
use Rattle.xm_report.specs.Report.{ReportLine}
use Rattle.health_monitor.specs.Monitor.{event_of_type}
use Rattle.machine_model.specs.Caller.{Acts, Caller, Meets, Upshot}
use Rattle.machine_model.specs.Health.{Worked, event_handled, interrupt_delivered, quiet, self_ordered}
use Rattle.machine_model.specs.Hypercalls.{served}
use Rattle.machine_model.specs.Partition.{PartitionState, areas_of, execution_looked_at, hardware_looked_at, raised_if, slot_start}
use Rattle.machine_model.specs.Emission as emission
use Rattle.machine_model.specs.Emission.{Act, Nothing, OwnPuts, OwnSignals, OwnStill, OwnTakes, OwnTraffic, Plans, Sight, Emission, Trades, Upon, UponAll, line_of}
use Rattle.machine_model.specs.View.{PartitionView, PortChannel, has_number}

-- the interrupts that a tick brings: the start of a slot, then the hardware timer, then the execution timer
unfoldable pub with_interrupts : ℕ → Bool → PartitionState → PartitionState
with_interrupts time first ps =
    execution_looked_at (hardware_looked_at time (record ps { traps = raised_if first slot_start ps.traps }))

-- whether a partition in this state goes on: an idle one is woken by the start of its slot or an interrupt that is due
abbrev pub goes_on : State → Bool → Option ℕ → Bool
goes_on Ready first interrupt = true
goes_on Idle first interrupt = first || is_some interrupt
goes_on Suspended first interrupt = false
goes_on Halted first interrupt = false

-- the partition with this tick on its execution clock; a reset that follows starts the clock again
unfoldable pub clocked : PartitionState → PartitionState
clocked ps = record ps { clocks = record ps.clocks { execution = ps.clocks.execution + 1 } }

-- an act on oneself is carried out at once; another one reaches beyond the partition
abbrev pub by_act : Act → PartitionView → PartitionState → Worked
by_act Nothing view ps = quiet ps
by_act (Trades traffic) view ps = record (quiet ps) { act = Trades traffic }
by_act (Upon id an_order) view ps =
    if id == view.id then self_ordered view an_order ps else record (quiet ps) { act = Upon id an_order }
by_act (Plans change) view ps = record (quiet ps) { act = Plans change }
by_act (UponAll event) view ps = record (quiet ps) { act = UponAll event }

-- the outcome of a hypercall, once the execution clock has counted the tick
abbrev pub by_upshot : Upshot → PartitionView → ℕ → PartitionState → Worked
by_upshot (Acts act) view time ps = by_act act view ps
by_upshot (Meets event word) view time ps = event_handled view time event word None ps

-- a hypercall and what follows it
unfoldable pub called : Caller → Worked
called caller =
    let s = served caller in
    let w = by_upshot s.upshot caller.view caller.time (clocked s.after) in
    record w { emitted = s.emitted ++ w.emitted }

-- the outcome of an instruction: a trap is a health event with the instruction's pc as word, a call is served
abbrev pub by_turn : Turn → PartitionView → List (Option Content) → ℕ → Sight → PartitionState → PartitionState → Worked
by_turn Went view contents time sight before ps = quiet (clocked ps)
by_turn (Trap type) view contents time sight before ps =
    event_handled view time (event_of_type type) before.core.pc (Some type) (clocked ps)
by_turn Call view contents time sight before ps = called (record {
  view = view;
  state = ps;
  contents = contents;
  time = time;
  sight = sight;
  pc = before.core.pc;
  npc = before.core.npc;
})

-- the partition with the registers and the memory that an instruction leaves
abbrev pub turned_state : Turned → PartitionState → PartitionState
turned_state t ps = record ps { core = t.core; memory = t.memory }

-- one instruction, with the window that it needs
unfoldable pub executed_in_tick : PartitionView → List (Option Content) → ℕ → Sight → PartitionState → Worked
executed_in_tick view contents time sight ps =
    let t = settled (areas_of view) ps.core ps.memory in
    by_turn t.turn view contents time sight ps (turned_state t ps)

-- an interrupt that is due is delivered where traps are enabled; otherwise an instruction is executed
abbrev pub delivered_or_executed : Option ℕ → Bool → PartitionView → List (Option Content) → ℕ → Sight → PartitionState → Worked
delivered_or_executed None enabled view contents time sight ps = executed_in_tick view contents time sight ps
delivered_or_executed (Some n) true view contents time sight ps = interrupt_delivered view time n (clocked ps)
delivered_or_executed (Some n) false view contents time sight ps = executed_in_tick view contents time sight ps

-- the work of a partition that goes on: it is ready
abbrev pub worked_if : Bool → PartitionView → List (Option Content) → ℕ → Sight → PartitionState → Worked
worked_if false view contents time sight ps = quiet ps
worked_if true view contents time sight ps =
    delivered_or_executed (due ps.traps) ps.traps.enabled view contents time sight (record ps { state = Ready })

-- the work of a partition in a tick of its slot
unfoldable pub worked : PartitionView → List (Option Content) → ℕ → Bool → Sight → PartitionState → Worked
worked view contents time first sight ps =
    let ready = with_interrupts time first ps in
    worked_if (goes_on ready.state first (due ready.traps)) view contents time sight ready

-- what a partition's part of a tick gives: its state, its lines, its console bytes, and an act
pub record LocalTick : Type 0 where
  pub after : PartitionState
  pub lines : List ReportLine
  pub said : List ℕ
  pub act : Act

-- the console bytes of what was emitted
abbrev pub said_in : Emission → List ℕ
said_in (emission.Console bytes) = bytes
said_in (emission.Health event word action) = []
said_in (emission.Trace bits load) = []
said_in (emission.Moved to) = []

-- whether the channel of a port bears this name
abbrev pub has_name : Option PortChannel → ℕ → Bool
has_name None name = false
has_name (Some channel) name = channel.name == name

-- whether traffic is on a channel that the partition has under this name, or over a link of this number that goes from it
abbrev pub is_its : PartitionView → OwnTraffic → Bool
is_its view OwnStill = true
is_its view (OwnPuts name bytes) = has_name (slice_index_or view.channels name None) name
is_its view (OwnTakes name) = has_name (slice_index_or view.channels name None) name
is_its view (OwnSignals number) = has_number view.links number

-- only channels and links of the partition are acted on, and only other partitions get orders
abbrev pub bounded : PartitionView → Act → Act
bounded view Nothing = Nothing
bounded view (Trades traffic) = if is_its view traffic then Trades traffic else Nothing
bounded view (Upon id an_order) = if id == view.id then Nothing else Upon id an_order
bounded view (Plans change) = Plans change
bounded view (UponAll event) = UponAll event

-- the work as the rest of the system sees it: its lines have the partition's tag
abbrev pub seen_outside : PartitionView → ℕ → Worked → LocalTick
seen_outside view n w = record {
  after = w.after;
  lines = map (line_of n view.id) w.emitted;
  said = flat_map said_in w.emitted;
  act = bounded view w.act;
}

-- one partition's part of tick n in its slot: `first` where the slot begins with it
unfoldable pub local_tick : PartitionView → PartitionState → List (Option Content) → ℕ → ℕ → Bool → Sight → LocalTick
local_tick view ps contents n time first sight = seen_outside view n (worked view contents time first sight ps)
