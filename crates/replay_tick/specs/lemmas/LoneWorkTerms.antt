-- For proofs and private clauses: what one tick of one partition in isolation does to the whole system, part by part.
use Rattle.std.specs.Prelude.{◌≡◌, ℕ, ◌<◌, ◌≤◌, ◌==◌, ◌&&◌, not, Bool, true, false, List, [], ◌++◌, ◌+◌, length, map, Option, Some, None, IsSomeAnd, slice_get}
use Rattle.xm_conf.specs.Configuration.{Chan, Conf}
use Rattle.xm_conf.specs.declared.channel.ChanKind.{ChanKind}
use Rattle.xm_ports.specs.Channels.{Content, IsMessage}
use Rattle.xm_report.specs.Report.{ReportLine}
use Rattle.cue_scripts.specs.Script.{IsCue}
use Rattle.machine_model.specs.Caller.{Caller, invalid_parameter, is_room, not_available, with_answer, with_written}
use Rattle.machine_model.specs.Cue.{Cue}
use Rattle.machine_model.specs.Health.{Worked}
use Rattle.machine_model.specs.Machine.{Machine}
use Rattle.machine_model.specs.Observed.{Observation}
use Rattle.machine_model.specs.Partition.{PartitionState, is_halted}
use Rattle.machine_model.specs.Emission.{NotKept, OwnTraffic, Sight, Unseen, WholeEvent, Words, line_of}
use Rattle.machine_model.specs.Traffic.{Puts, Takes}
use Rattle.machine_model.specs.View.{view_of}
use Rattle.machine_model.specs.Whole.{event_lines, event_of}
use Rattle.span_model.specs.Passes.{part_at, traded, traffic_in, with_part, with_traffic}
use Rattle.system_state.specs.Serving.{CanBeEmitted}
use Rattle.system_state.specs.State.{SysState, areas_in, with_machine}
use Rattle.system_state.specs.declared.served.Note.{Note}
use Rattle.replay_model.specs.Passes.{event_met, traffic_received}
use Rattle.replay_model.specs.Step.{IsOfSystem}
use Rattle.replay_model.specs.Taking.{is_empty_copy, asks_entry, is_queue_full, takes_sight}
use Rattle.tick_steps.specs.Machine.{IsMachine}
use Rattle.tick_steps.specs.Work.{EmitsAlone, act_beyond, console_emissions}
use Rattle.replay_tick.specs.declared.call.Asked.{Asked}
use Rattle.replay_tick.specs.declared.work.LoneWork.{LoneWork}
use Rattle.replay_tick.specs.LoneWork.{IsLoneTick}

-- the machine after the traffic of others under partition p's names, where it can be
abbrev pub traffic_done : Bool → Machine → ℕ → OwnTraffic → Machine
traffic_done true g p own = traffic_received p own g
traffic_done false g p own = g

-- a channel of the configuration may get these bytes as a message
pub record IsChannelFor (conf : Conf) (c : ℕ) (bytes : List ℕ) : Type 0 where
  pub chan : Chan
  pub there : slice_get conf.chans c ≡ Some chan
  pub fits : IsMessage chan.length bytes

-- the configuration has the channel, of such a kind
abbrev pub IsChannelOfKind : (ChanKind → Type 0) → Conf → ℕ → Type 0
IsChannelOfKind Of conf c = IsSomeAnd (slice_get conf.chans c) (λ (chan : Chan). Of chan.kind)

-- whether what a channel holds is a full queue
abbrev pub is_full_in : Option Chan → Option Content → Bool
is_full_in None content = false
is_full_in (Some chan) None = false
is_full_in (Some chan) (Some content) = is_queue_full chan.kind content

-- whether a channel takes a message
abbrev pub has_room : Machine → ℕ → Bool
has_room g c = not (is_full_in (slice_get g.system.conf.chans c) (slice_get g.channels c))

-- whether a message can be taken from a channel
abbrev pub has_first : Machine → ℕ → Bool
has_first g c = not (is_empty_copy (slice_get g.channels c))

-- the machine after a message is put into a channel, where it can be
abbrev pub put_in : Bool → Machine → ℕ → List ℕ → Machine
put_in true g c bytes = with_traffic (Puts c bytes) g
put_in false g c bytes = g

-- a message was put into a channel, where that takes it
pub record HasPut (is_put : Bool) (c : ℕ) (bytes : List ℕ) (old new : SysState) : Type 0 where
  pub taken : is_put ≡ has_room old.machine c
  pub put : new ≡ with_machine (put_in is_put old.machine c bytes) old

-- the machine after a message is taken from one, where it can be
abbrev pub taken_in : Bool → Machine → ℕ → Machine
taken_in true g c = with_traffic (Takes c) g
taken_in false g c = g

-- what an observing call asks for, as far as its tests say
abbrev pub asked_of : Option Observation → Option Asked
asked_of None = None
asked_of (Some call) = Some (record { address = call.address; size = call.size; entry = asks_entry call.question })

-- whether this is what the call of a caller is shown
abbrev pub shows_this : Caller → Asked → Sight → Bool
shows_this caller asked Unseen = not (is_room caller asked.address asked.size)
shows_this caller asked NotKept = asked.entry
shows_this caller asked (Words bytes) = is_room caller asked.address asked.size && length bytes == asked.size

-- the partition after its call was shown this
abbrev pub shown_state : Asked → Sight → PartitionState → PartitionState
shown_state asked Unseen ps = with_answer invalid_parameter ps
shown_state asked NotKept ps = with_answer not_available ps
shown_state asked (Words bytes) ps = with_answer 0 (with_written asked.address bytes ps)

-- the work of partition p in isolation was this
pub record IsLoneDone (p : ℕ) (w : Worked) (work : LoneWork) (old new : SysState) (got : List ReportLine) : Type 0 where
  pub state : new ≡ with_machine (traded (traffic_in old.machine p w.act) (with_part p w.after old.machine)) old
  pub lines : map (line_of old.machine.ticks p) w.emitted ≡ map (line_of old.machine.ticks p) (console_emissions work.note w.after.memory) ++ got
  pub event : event_of w.act ≡ event_of (act_beyond work.reach)
  pub readable : CanBeEmitted work.note (areas_in p old.machine)
  pub alone : EmitsAlone work.note work.reach
  pub few : length got ≤ 4

-- a partition of which nothing changed that is counted
pub record IsUncounted (before after : PartitionState) : Type 0 where
  pub traces : after.traces ≡ before.traces
  pub health : after.health ≡ before.health
  pub execution : after.clocks.execution ≡ before.clocks.execution
  pub inputs : after.inputs ≡ before.inputs
  pub made : after.made ≡ before.made
  pub awake : is_halted after.state ≡ is_halted before.state

-- the work was not done
pub record IsWorkUndone (p : ℕ) (old new : SysState) : Type 0 where
  pub after : PartitionState
  pub state : new ≡ with_machine (with_part p after old.machine) old
  pub same : IsUncounted (part_at p old.machine) after

-- the work of partition p, which is to be shown this by what it asks for: it is done where that may be shown
abbrev pub IsLoneWork : Option LoneWork → ℕ → Option Observation → Sight → Worked → SysState → SysState → List ReportLine → Type 0
IsLoneWork (Some work) p asked seen w old new got = (takes_sight (view_of old.machine.system p) asked seen ≡ true) × IsLoneDone p w work old new got
IsLoneWork None p asked seen w old new got = (takes_sight (view_of old.machine.system p) asked seen ≡ false) × IsWorkUndone p old new

-- what a tick of partition p in isolation needs that receives this: the hypervisor has not halted, a tick is left, and no lines wait
pub record CanTickAlone (p : ℕ) (received : Cue) (sys : SysState) (had : List ReportLine) : Type 0 where
  pub machine : IsMachine sys
  pub partition : p < length sys.machine.parts
  pub running : sys.machine.halted ≡ false
  pub more : sys.machine.ticks < 4000000000
  pub cue : IsCue sys.machine.system.conf p received
  pub empty : had ≡ []

-- the end of a tick of partition p in isolation: whether it was done or not, the machine is one of the same system
pub record IsLoneTickEnded (emitted : Option Note) (p : ℕ) (cue : Cue) (old new : SysState) (got : List ReportLine) : Type 0 where
  pub tick : IsLoneTick emitted p cue old.machine new.machine got
  pub machine : IsMachine new
  pub system : IsOfSystem old.machine new.machine

-- partition p met a hypervisor event, with one line at most
pub record HasMetEvent (p : ℕ) (event : WholeEvent) (old new : SysState) (had got : List ReportLine) : Type 0 where
  pub state : new ≡ with_machine (event_met p event old.machine) old
  pub lines : got ≡ had ++ event_lines old.machine.ticks event p
  pub few : length got ≤ length had + 1
