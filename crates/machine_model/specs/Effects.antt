-- What hypercalls do, as values: seventeen effects, the tests that each makes by itself, and what the outcome of each is.
use Rattle.std.specs.Prelude.{ℕ, ◌++◌, ◌==◌, ◌||◌, ◌∷◌, Bool, not, List, Option, [], nat_lt}
use Rattle.sparc_step.specs.Registers.{with_icc}
use Rattle.virt_clocks.specs.Clocks.{with_timer}
use Rattle.virt_clocks.specs.declared.timer.Clock.{Clock}
use Rattle.virt_clocks.specs.declared.timer.Timer.{Timer}
use Rattle.virt_traps.specs.Delivery.{returned}
use Rattle.virt_traps.specs.Moves.{move_made}
use Rattle.xm_base.specs.declared.partition.Order.{Order}
use Rattle.xm_base.specs.declared.partition.State.TheVariants.{Idle}
use Rattle.xm_conf.specs.declared.health.Event.{Event}
use Rattle.xm_conf.specs.declared.port.Kind.TheVariants as kind
use Rattle.xm_conf.specs.declared.port.Kind.{Kind}
use Rattle.xm_ports.specs.Channels.{first_message, sample_of}
use Rattle.machine_model.specs.Caller.{Caller, Meets, Served, Test, acting, answering, caller_bytes, invalid_parameter, not_available, refused_if, system_only, target, tested, text, with_answer, with_written}
use Rattle.machine_model.specs.OwnEffects.{by_flush, by_return, flushed, input_read, printed, tracing, with_mask}
use Rattle.machine_model.specs.Partition.{PartitionState, areas_of}
use Rattle.machine_model.specs.PortEffects.{MadePort, creating, first_read, held_read, is_full, made_port, on_port, reading_from, size_fits, source_only, writing_status}
use Rattle.machine_model.specs.Emission.{Asked, OwnPuts, OwnSignals, Plans, Trades, Upon, UponAll, WholeEvent}
use Rattle.machine_model.specs.View.{has_number}

-- bytes that a call writes at an address
pub record Writing : Type 0 where
  pub address : ℕ
  pub bytes : List ℕ

-- the partition with all of these in its memory, one after another
abbrev pub with_writings : List Writing → PartitionState → PartitionState
with_writings [] ps = ps
with_writings (writing ∷ writings) ps = with_writings writings (with_written writing.address writing.bytes ps)

-- what a call changes of its own partition besides memory: it waits, a timer is set, interrupts are masked, the condition codes are set and traps
-- enabled or not, or the table of traps stands elsewhere
pub data OwnChange : Type 0 where
  Waits : OwnChange
  ArmsTimer : (clock : Clock) (timer : Option Timer) → OwnChange
  SetsMask : (mask : ℕ) → OwnChange
  SetsCodes : (icc : ℕ) (enabled : Bool) → OwnChange
  SetsBase : (base : ℕ) → OwnChange

-- the partition after such a change
abbrev pub with_change : OwnChange → PartitionState → PartitionState
with_change Waits ps = record ps { state = Idle }
with_change (ArmsTimer clock timer) ps = record ps { clocks = with_timer clock timer ps.clocks }
with_change (SetsMask mask) ps = with_mask mask ps
with_change (SetsCodes icc enabled) ps = record ps { core = with_icc ps.core icc; traps = record ps.traps { enabled = enabled } }
with_change (SetsBase base) ps = record ps { traps = record ps.traps { base = base } }

-- what a call does where its tests are passed: it answers and writes bytes of its partition's memory; it prints bytes to the console; it orders a
-- partition; it does this to all partitions; it requests a plan; it puts a message of this many bytes at an address through a port of this kind; it takes
-- the first message of a queue; it sends a signal over the link of this number; it reads the message of a sampling port; it writes this many bytes on a
-- port of this kind; it creates a port; it changes its own partition; it enters a trace; it uses an input word; it meets a health event; it goes back
-- from a trap; or it spills its windows
pub data CallEffect : Type 0 where
  GivesAnswer : (value : ℕ) (writings : List Writing) → CallEffect
  PrintsBytes : (bytes : List ℕ) (value : ℕ) → CallEffect
  GivesOrder : (id : ℕ) (order : Order) → CallEffect
  DoesToAll : (event : WholeEvent) → CallEffect
  RequestsPlan : (plan : ℕ) (writings : List Writing) → CallEffect
  PutsBytes : (the_kind : Kind) (address size : ℕ) → CallEffect
  TakesMessage : CallEffect
  SendsSignal : (number : ℕ) → CallEffect
  ShowsSample : CallEffect
  ShowsPort : (the_kind : Kind) (size : ℕ) (status : MadePort → List ℕ) → CallEffect
  CreatesPort : (the_kind : Kind) (way size most : ℕ) (name : Option (List ℕ)) → CallEffect
  ChangesOwn : (change : OwnChange) → CallEffect
  EntersTrace : CallEffect
  UsesInput : CallEffect
  MeetsEvent : (event : Event) (word : ℕ) → CallEffect
  GoesBack : CallEffect
  SpillsWindows : CallEffect

-- plan 0 cannot be asked for, and others have to be there
abbrev pub is_plan_missing : ℕ → Caller → Bool
is_plan_missing plan caller = plan == 0 || not (nat_lt plan caller.view.sees.plans)

-- the tests that an effect makes by itself, before those of its call: whatever call has it needs this right
abbrev pub right_tests : CallEffect → Caller → List Test
right_tests (GivesAnswer value writings) caller = []
right_tests (PrintsBytes bytes value) caller = []
right_tests (GivesOrder id order) caller = target caller id ∷ []
right_tests (DoesToAll event) caller = system_only caller ∷ []
right_tests (RequestsPlan plan writings) caller = system_only caller ∷ refused_if (is_plan_missing plan caller) invalid_parameter ∷ []
right_tests (PutsBytes the_kind address size) caller = []
right_tests TakesMessage caller = []
right_tests (SendsSignal number) caller = refused_if (not (has_number caller.view.links number)) invalid_parameter ∷ []
right_tests ShowsSample caller = []
right_tests (ShowsPort the_kind size status) caller = []
right_tests (CreatesPort the_kind way size most name) caller = []
right_tests (ChangesOwn change) caller = []
right_tests EntersTrace caller = []
right_tests UsesInput caller = []
right_tests (MeetsEvent event word) caller = []
right_tests GoesBack caller = []
right_tests SpillsWindows caller = []

-- a queue that is full takes no more; a sampling port's channel takes each message
abbrev pub queue_room : Kind → MadePort → List Test
queue_room kind.Sampling port = []
queue_room kind.Queuing port = refused_if (is_full port) not_available ∷ []

-- a message of this many bytes at an address is put into the port's channel
abbrev pub putting_bytes : ℕ → ℕ → Caller → MadePort → Served
putting_bytes address size caller port = acting (Trades (OwnPuts port.name (caller_bytes caller address size))) 0 caller.state

-- the outcome of an effect where the tests are passed; the effects on ports look for the port that the call names, and test it
abbrev pub comes_to : CallEffect → Caller → Served
comes_to (GivesAnswer value writings) caller = answering value (with_writings writings caller.state)
comes_to (PrintsBytes bytes value) caller = record (answering value caller.state) { emitted = printed bytes }
comes_to (GivesOrder id order) caller = acting (Upon id order) 0 caller.state
comes_to (DoesToAll event) caller = acting (UponAll event) 0 caller.state
comes_to (RequestsPlan plan writings) caller = acting (Plans (Asked plan)) 0 (with_writings writings caller.state)
comes_to (PutsBytes the_kind address size) caller = on_port (made_port the_kind caller) caller (λ port.
    tested (source_only port ∷ size_fits port size ∷ text caller address size ∷ queue_room the_kind port) caller (putting_bytes address size caller port))
comes_to TakesMessage caller = reading_from kind.Queuing caller (λ port. first_read (first_message port.content) caller port)
comes_to (SendsSignal number) caller = acting (Trades (OwnSignals number)) 0 caller.state
comes_to ShowsSample caller = reading_from kind.Sampling caller (λ port. held_read (sample_of port.content) caller port)
comes_to (ShowsPort the_kind size status) caller = writing_status the_kind size caller status
comes_to (CreatesPort the_kind way size most name) caller = creating the_kind way size most name caller
comes_to (ChangesOwn change) caller = answering 0 (with_change change caller.state)
comes_to EntersTrace caller = tracing caller
comes_to UsesInput caller = input_read caller.state.inputs caller
comes_to (MeetsEvent event word) caller = record { after = with_answer 0 caller.state; emitted = []; upshot = Meets event word }
comes_to GoesBack caller =
    let r = returned (areas_of caller.view) caller.state.traps caller.state.core caller.state.memory in
    by_return r.answer r caller
comes_to SpillsWindows caller =
    let moved = flushed 8 (areas_of caller.view) (move_made caller.state.core caller.state.memory) in
    by_flush moved.answer (record caller.state { core = moved.core; memory = moved.memory }) caller

-- an effect after tests of its call
pub record TestedEffect : Type 0 where
  pub tests : List Test
  pub effect : CallEffect

-- its outcome: the tests of the effect's right are made first, then those of the call
abbrev pub performed : TestedEffect → Caller → Served
performed asked caller = tested (right_tests asked.effect caller ++ asked.tests) caller (comes_to asked.effect caller)
