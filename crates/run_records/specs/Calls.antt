-- What a partition did with the hypervisor, and what it met: a line for each call, delivery, trap, health event and change of state.
use Rattle.std.specs.Prelude.{◌≡◌, ℕ, ◌+◌, ◌-◌, ◌^◌, ◌==◌, ◌||◌, nat_le, Bool, true, false, if◌then◌else◌, List, [], ◌∷◌, ◌++◌, map, take, filter, Option, Some, None, Result, Ok, Err, codes, decimal, slice_get, unwrap_or}
use Rattle.std.specs.Fmt.{digits}
use Rattle.std.specs.List.{flat_map}
use Rattle.std.specs.Int.{w32, to_be_bytes}
use Rattle.hex.specs.Hex.{encode_lower}
use Rattle.guest_bus.specs.Access.{fetched}
use Rattle.guest_bus.specs.Memory.{Area}
use Rattle.guest_bus.specs.declared.bus.BusFault.{BusFault}
use Rattle.sparc_code.specs.Decoded.{decoded}
use Rattle.sparc_code.specs.declared.instruction.Instr.{Instr}
use Rattle.sparc_code.specs.declared.instruction.Instr.TheVariants as instr
use Rattle.sparc_step.specs.Operands.{sum_of}
use Rattle.sparc_step.specs.Registers.{Registers, register_at}
use Rattle.sparc_step.specs.declared.outcome.Turn.{Turn}
use Rattle.sparc_step.specs.declared.outcome.Turn.TheVariants.{Went, Trap, Call}
use Rattle.virt_traps.specs.Delivery.{returned}
use Rattle.virt_traps.specs.Moves.{fill_address, move_made, spill_address}
use Rattle.virt_traps.specs.Settled.{settled}
use Rattle.virt_traps.specs.declared.delivery.IretFault.{IretFault}
use Rattle.virt_traps.specs.declared.delivery.IretFault.TheVariants as iret_fault
use Rattle.xm_base.specs.declared.partition.State.TheVariants.{Ready}
use Rattle.xm_conf.specs.Health.{action_row, event_row}
use Rattle.xm_conf.specs.declared.health.Action.{Action}
use Rattle.xm_conf.specs.declared.health.Action.TheVariants as action
use Rattle.xm_conf.specs.declared.health.Event.{Event}
use Rattle.xm_report.specs.Report.{ReportLine, ConsoleLine, EndPart, EndWhole, HealthLine, MovedLine, PlanLine, StruckLine, SystemLine, TraceLine, WholeLine, escaped, moved_text, texts}
use Rattle.xm_report.specs.declared.line.Move.{Move}
use Rattle.health_monitor.specs.Monitor.{action_in, effect_of, event_of_type}
use Rattle.machine_model.specs.Alone.{Alone, alone_step_lines}
use Rattle.machine_model.specs.Caller.{Acts, Caller, Meets, Upshot, invalid_parameter, number_of}
use Rattle.machine_model.specs.declared.numbers.Call.{Call as HyperCall}
use Rattle.machine_model.specs.declared.numbers.Call.TheVariants as calls
use Rattle.machine_model.specs.Calls.{call_of, number_of_call}
use Rattle.machine_model.specs.Cue.{Away, CueSlot, Mine}
use Rattle.machine_model.specs.Hypercalls.{served}
use Rattle.machine_model.specs.Laws.{alone_part_at}
use Rattle.machine_model.specs.LocalTick.{turned_state, with_interrupts}
use Rattle.machine_model.specs.Machine.{Machine}
use Rattle.machine_model.specs.OwnEffects.{flushed}
use Rattle.machine_model.specs.Partition.{PartitionState, areas_of}
use Rattle.machine_model.specs.PortEffects.{name_given}
use Rattle.machine_model.specs.View.{PartitionView, view_of}
use Rattle.upset_model.specs.Upsets.{Schedule, own_strikes, upset_run, upset_script}
use Rattle.continuation_laws.specs.Continued.{from_tick}
use Rattle.run_records.specs.Doing.{Doing, Rests, Delivers, Executes, doing}
use Rattle.run_records.specs.Tried.{Tried, tried}
use Rattle.run_records.specs.OwnTicks.{OwnTick, alone_ticks, own_ticks}

-- a line: a hypercall of this number with its arguments, the name of the port that it makes, and its result where it has one; an interrupt that is delivered; a trap of this type; a health
-- event, with the address that was accessed where there is one; or a change of state. Each has the tick and the partition, and the first three the pc
pub data CallLine : Type 0 where
  CallMade : (n p pc number : ℕ) (arguments : List ℕ) (name : Option (List ℕ)) (result : Option ℕ) → CallLine
  InterruptTaken : (n p pc interrupt : ℕ) → CallLine
  TrapMet : (n p pc type : ℕ) → CallLine
  HealthMet : (n p : ℕ) (event : Event) (word : ℕ) (accessed : Option ℕ) (action : Action) → CallLine
  StateMoved : (n p : ℕ) (to : Move) → CallLine

-- the names of the calls, and how many arguments each has
pub record CallRow : Type 0 where
  pub name : List ℕ
  pub arguments : ℕ

abbrev pub call_row : HyperCall → CallRow
call_row calls.GetSelf = record { name = codes "get_self"; arguments = 0 }
call_row calls.HaltPartition = record { name = codes "halt_partition"; arguments = 1 }
call_row calls.ResetPartition = record { name = codes "reset_partition"; arguments = 3 }
call_row calls.SuspendPartition = record { name = codes "suspend_partition"; arguments = 1 }
call_row calls.ResumePartition = record { name = codes "resume_partition"; arguments = 1 }
call_row calls.ShutdownPartition = record { name = codes "shutdown_partition"; arguments = 1 }
call_row calls.IdleSelf = record { name = codes "idle_self"; arguments = 0 }
call_row calls.GetPartitionStatus = record { name = codes "get_partition_status"; arguments = 2 }
call_row calls.HaltSystem = record { name = codes "halt_system"; arguments = 0 }
call_row calls.ResetSystem = record { name = codes "reset_system"; arguments = 1 }
call_row calls.GetSystemStatus = record { name = codes "get_system_status"; arguments = 1 }
call_row calls.GetTime = record { name = codes "get_time"; arguments = 2 }
call_row calls.SetTimer = record { name = codes "set_timer"; arguments = 5 }
call_row calls.SwitchSchedPlan = record { name = codes "switch_sched_plan"; arguments = 2 }
call_row calls.GetPlanStatus = record { name = codes "get_plan_status"; arguments = 1 }
call_row calls.CreateSamplingPort = record { name = codes "create_sampling_port"; arguments = 3 }
call_row calls.WriteSamplingMessage = record { name = codes "write_sampling_message"; arguments = 3 }
call_row calls.ReadSamplingMessage = record { name = codes "read_sampling_message"; arguments = 4 }
call_row calls.GetSamplingPortStatus = record { name = codes "get_sampling_port_status"; arguments = 2 }
call_row calls.CreateQueuingPort = record { name = codes "create_queuing_port"; arguments = 4 }
call_row calls.SendQueuingMessage = record { name = codes "send_queuing_message"; arguments = 3 }
call_row calls.ReceiveQueuingMessage = record { name = codes "receive_queuing_message"; arguments = 3 }
call_row calls.GetQueuingPortStatus = record { name = codes "get_queuing_port_status"; arguments = 2 }
call_row calls.TraceEvent = record { name = codes "trace_event"; arguments = 2 }
call_row calls.TraceRead = record { name = codes "trace_read"; arguments = 3 }
call_row calls.TraceStatus = record { name = codes "trace_status"; arguments = 2 }
call_row calls.RaiseEvent = record { name = codes "hm_raise_event"; arguments = 1 }
call_row calls.HmRead = record { name = codes "hm_read"; arguments = 3 }
call_row calls.HmStatus = record { name = codes "hm_status"; arguments = 2 }
call_row calls.SetIrqmask = record { name = codes "set_irqmask"; arguments = 1 }
call_row calls.ClearIrqmask = record { name = codes "clear_irqmask"; arguments = 1 }
call_row calls.WriteConsole = record { name = codes "write_console"; arguments = 2 }
call_row calls.ReadInput = record { name = codes "read_input"; arguments = 1 }
call_row calls.Iret = record { name = codes "sparc_iret"; arguments = 0 }
call_row calls.SetPsr = record { name = codes "sparc_set_psr"; arguments = 1 }
call_row calls.SetTbr = record { name = codes "sparc_set_tbr"; arguments = 1 }
call_row calls.FlushRegwin = record { name = codes "sparc_flush_regwin"; arguments = 0 }
call_row calls.RaiseIpvi = record { name = codes "raise_ipvi"; arguments = 1 }

-- the row of a number; one that is no call's has a name of its own, and no arguments
abbrev pub row_of_call : ℕ → Option HyperCall → CallRow
row_of_call number None = record { name = codes "call_" ++ decimal number; arguments = 0 }
row_of_call number (Some call) = call_row call

-- whether the slot begins with a tick
abbrev pub begins : CueSlot → Bool
begins Away = false
begins (Mine first) = first

-- a partition as its instruction finds it: the interrupts of the tick are pending, and it is ready
unfoldable pub started_tick : OwnTick → PartitionState
started_tick tick = record (with_interrupts tick.found.time (begins tick.cue.mine) tick.found.state) { state = Ready }

-- what a hypercall of a tick is given
unfoldable pub caller_in : PartitionView → OwnTick → Caller
caller_in view tick = record {
  view = view;
  state = turned_state (settled (areas_of view) (started_tick tick).core (started_tick tick).memory) (started_tick tick);
  contents = tick.found.copies;
  time = tick.found.time;
  sight = tick.cue.seen;
  pc = tick.found.state.core.pc;
  npc = tick.found.state.core.npc;
}

-- the value of %o0 that a call leaves
abbrev pub answer_of : Caller → ℕ
answer_of caller = register_at (served caller).after.core 8

-- the way back from a trap has a result only where it is refused, and no call has one that met a stack fault
abbrev pub result_of_return : Result (Unit {0}) IretFault → Option ℕ
result_of_return (Ok back) = None
result_of_return (Err iret_fault.Unaligned) = Some invalid_parameter
result_of_return (Err iret_fault.Stack) = None

abbrev pub result_of_flush : Upshot → Caller → Option ℕ
result_of_flush (Acts act) caller = Some (answer_of caller)
result_of_flush (Meets event word) caller = None

-- the result of a call, where it has one
unfoldable pub result_of : Caller → Option ℕ
result_of caller =
    if number_of caller == number_of_call calls.Iret
    then result_of_return (returned (areas_of caller.view) caller.state.traps caller.state.core caller.state.memory).answer
    else if number_of caller == number_of_call calls.FlushRegwin then result_of_flush (served caller).upshot caller
    else Some (answer_of caller)

-- the arguments of a call, of which it has this many
abbrev pub arguments_of : ℕ → Caller → List ℕ
arguments_of count caller = take count (map (register_at caller.state.core) (9 ∷ 10 ∷ 11 ∷ 12 ∷ 13 ∷ []))

-- the name of the port that a call makes, where it can be read
abbrev pub name_in : Caller → Option (List ℕ)
name_in caller =
    if number_of caller == number_of_call calls.CreateSamplingPort || number_of caller == number_of_call calls.CreateQueuingPort then name_given caller else None

-- the line of a call
unfoldable pub call_made : ℕ → Caller → CallLine
call_made n caller =
    CallMade n caller.view.id caller.pc (number_of caller) (arguments_of (row_of_call (number_of caller) (call_of (number_of caller))).arguments caller)
    (name_in caller) (result_of caller)

-- what an instruction comes to, as a line
abbrev pub turn_lines : Turn → PartitionView → OwnTick → List CallLine
turn_lines Went view tick = []
turn_lines (Trap type) view tick = TrapMet tick.found.ticks view.id tick.found.state.core.pc type ∷ []
turn_lines Call view tick = call_made tick.found.ticks (caller_in view tick) ∷ []

-- what an instruction comes to in the state that a tick finds
unfoldable pub turn_in : PartitionView → OwnTick → Turn
turn_in view tick = (settled (areas_of view) tick.found.state.core tick.found.state.memory).turn

-- what a partition did in a tick, as a line
abbrev pub did_lines : Doing → PartitionView → OwnTick → List CallLine
did_lines Rests view tick = []
did_lines (Delivers n) view tick = InterruptTaken tick.found.ticks view.id tick.found.state.core.pc n ∷ []
did_lines Executes view tick = turn_lines (turn_in view tick) view tick

-- the address that an instruction accesses: that of a load, a store or an exchange, or the target of a jump
abbrev pub operand_of : Instr → Registers → Option ℕ
operand_of (instr.Call disp) core = None
operand_of (instr.Branch condition annul disp) core = None
operand_of (instr.Sethi rd imm) core = None
operand_of (instr.Arith operation rd rs1 source) core = None
operand_of (instr.ReadY rd) core = None
operand_of instr.Barrier core = None
operand_of (instr.WriteY rs1 source) core = None
operand_of (instr.Jump rd rs1 source) core = Some (sum_of rs1 source core)
operand_of (instr.Trap condition rs1 source) core = None
operand_of instr.Flush core = None
operand_of (instr.Save rd rs1 source) core = None
operand_of (instr.Restore rd rs1 source) core = None
operand_of (instr.Mem operation rd rs1 source) core = Some (sum_of rs1 source core)
operand_of instr.Privileged core = None
operand_of instr.Float core = None
operand_of instr.Coproc core = None
operand_of instr.Illegal core = None

abbrev pub operand_fetched : Result ℕ BusFault → Registers → Option ℕ
operand_fetched (Ok word) core = operand_of (decoded word) core
operand_fetched (Err fault) core = None

-- the address that a trap of this type is about: a fetch is of the pc, an access and a jump of their operand, and a spill or a fill of its window's place
abbrev pub accessed_by_trap : ℕ → List Area → Tried → Option ℕ
accessed_by_trap type areas t =
    if type == 1 then Some t.core.pc
    else if type == 5 then Some (spill_address t.core)
    else if type == 6 then Some (fill_address t.core)
    else if type == 7 || type == 9 then operand_fetched (fetched areas t.memory t.core.pc) t.core
    else None

-- the address of a window that a call could not move: the one that the way back needs, or the first that a flush could not spill
abbrev pub accessed_by_call : Caller → Option ℕ
accessed_by_call caller =
    if number_of caller == number_of_call calls.Iret then Some (fill_address caller.state.core)
    else if number_of caller == number_of_call calls.FlushRegwin
    then Some (spill_address (flushed 8 (areas_of caller.view) (move_made caller.state.core caller.state.memory)).core)
    else None

-- whether an action hands the trap to the partition
abbrev pub is_propagation : Action → Bool
is_propagation action.Ignore = false
is_propagation action.Shutdown = false
is_propagation action.PartitionColdReset = false
is_propagation action.PartitionWarmReset = false
is_propagation action.Suspend = false
is_propagation action.Halt = false
is_propagation action.Propagate = true
is_propagation action.HypervisorColdReset = false
is_propagation action.HypervisorWarmReset = false
is_propagation action.HypervisorHalt = false
is_propagation action.SwitchToMaintenance = false

-- the action that answers a trap of this type
abbrev pub action_on_trap : PartitionView → ℕ → PartitionState → Action
action_on_trap view type ps = (effect_of (action_in view.part.hm (event_of_type type)) ps.traps.enabled).action

-- the address of a health event after a trap: the trap's own; but where the trap was handed on and its delivery failed, the event of that has the
-- place of the window that could not be spilled
abbrev pub accessed_after_trap : (handed propagates : Bool) → Option ℕ → ℕ → Option ℕ
accessed_after_trap true true own spill = own
accessed_after_trap true false own spill = Some spill
accessed_after_trap false propagates own spill = own

abbrev pub accessed_in_turn : Turn → PartitionView → OwnTick → Action → Option ℕ
accessed_in_turn Went view tick answer = None
accessed_in_turn (Trap type) view tick answer =
    let t = tried (areas_of view) tick.found.state.core tick.found.state.memory in
    accessed_after_trap (is_propagation (action_on_trap view type tick.found.state)) (is_propagation answer) (accessed_by_trap type (areas_of view) t) (spill_address t.core)
accessed_in_turn Call view tick answer = accessed_by_call (caller_in view tick)

-- the address that was accessed where a tick met a health event that this action answers: an interrupt meets one where its window cannot be spilled
abbrev pub accessed_doing : Doing → PartitionView → OwnTick → Action → Option ℕ
accessed_doing Rests view tick answer = None
accessed_doing (Delivers n) view tick answer = Some (spill_address tick.found.state.core)
accessed_doing Executes view tick answer = accessed_in_turn (turn_in view tick) view tick answer

-- the report's lines of health events and changes of state, as lines of this file
abbrev pub met_lines : (Action → Option ℕ) → ReportLine → List CallLine
met_lines accessed (SystemLine parts plans ticks) = []
met_lines accessed (ConsoleLine n p bytes) = []
met_lines accessed (HealthLine n p event word answer) = HealthMet n p event word (accessed answer) answer ∷ []
met_lines accessed (TraceLine n p bits load) = []
met_lines accessed (MovedLine n p to) = StateMoved n p to ∷ []
met_lines accessed (StruckLine n p place bit) = []
met_lines accessed (WholeLine n to) = []
met_lines accessed (PlanLine n plan) = []
met_lines accessed (EndPart p state resets exec pc) = []
met_lines accessed (EndWhole halted plan clock ticks) = []

-- the lines of a tick: what the partition did, and then what the report says of it
unfoldable pub call_lines_in : PartitionView → OwnTick → List CallLine
call_lines_in view tick =
    did_lines (doing tick.found tick.cue) view tick
    ++ flat_map (met_lines (accessed_doing (doing tick.found tick.cue) view tick)) (alone_step_lines view tick.found tick.cue)

-- the lines of ticks
abbrev pub call_lines : PartitionView → List OwnTick → List CallLine
call_lines view ticks = flat_map (call_lines_in view) ticks

-- the ticks from this one on
abbrev pub since : ℕ → List OwnTick → List OwnTick
since first ticks = filter (λ tick. nat_le first tick.found.ticks) ticks

-- the report's line of a line, where it has one
abbrev pub reported_as : CallLine → List ReportLine
reported_as (CallMade n p pc number arguments name result) = []
reported_as (InterruptTaken n p pc interrupt) = []
reported_as (TrapMet n p pc type) = []
reported_as (HealthMet n p event word accessed answer) = HealthLine n p event word answer ∷ []
reported_as (StateMoved n p to) = MovedLine n p to ∷ []

-- whether a line of the report is one of a health event or of a change of state
abbrev pub is_met : ReportLine → Bool
is_met (SystemLine parts plans ticks) = false
is_met (ConsoleLine n p bytes) = false
is_met (HealthLine n p event word answer) = true
is_met (TraceLine n p bits load) = false
is_met (MovedLine n p to) = true
is_met (StruckLine n p place bit) = false
is_met (WholeLine n to) = false
is_met (PlanLine n plan) = false
is_met (EndPart p state resets exec pc) = false
is_met (EndWhole halted plan clock ticks) = false

-- the file has all health events and changes of state of a tick that the report has, in their order, and no others
abbrev pub HasEachEvent : Type 0
HasEachEvent = (view : PartitionView) (tick : OwnTick) → flat_map reported_as (call_lines_in view tick) ≡ filter is_met (alone_step_lines view tick.found tick.cue)

-- the lines of a run are those of the partition alone, under its script and with its own upsets, from any tick on
abbrev pub CallsAlone : Type 0
CallsAlone = (first count : ℕ) (s : Schedule) (g : Machine) (p : ℕ) (a : Alone) → alone_part_at g p ≡ Some a
    → call_lines (view_of g.system p) (since first (own_ticks s g p count))
    ≡ call_lines (view_of g.system p) (since first (alone_ticks (view_of g.system p) (own_strikes p s) a (upset_script s g p count)))

-- a number in hexadecimal digits without leading zeros, and a word in eight
abbrev pub short_hex : ℕ → List ℕ
short_hex n = digits 16 false n

abbrev pub word_hex : ℕ → List ℕ
word_hex n = encode_lower (to_be_bytes w32 n)

-- the names of the negative results, from -1 on
abbrev pub refusal_names : List (List ℕ)
refusal_names =
    codes " XM_NO_ACTION" ∷ codes " XM_UNKNOWN_CALL" ∷ codes " XM_INVALID_PARAMETER" ∷ codes " XM_NO_PERMISSION"
    ∷ codes " XM_INVALID_CONFIGURATION" ∷ codes " XM_INVALID_MODE" ∷ codes " XM_NOT_AVAILABLE" ∷ codes " XM_NOT_ALLOWED" ∷ []

-- a result: words from 2 ^ 31 on are negative, and have their names
abbrev pub result_text : ℕ → List ℕ
result_text value =
    if nat_le (2 ^ 31) value then codes "-" ++ decimal (2 ^ 32 - value) ++ unwrap_or (slice_get refusal_names (2 ^ 32 - 1 - value)) []
    else decimal value

abbrev pub name_text : Option (List ℕ) → List ℕ
name_text None = []
name_text (Some name) = codes " \"" ++ escaped name ++ codes "\""

abbrev pub equals_text : Option ℕ → List ℕ
equals_text None = []
equals_text (Some value) = codes " = " ++ result_text value

-- the end of the line of a health event, with the address that was accessed where there is one
abbrev pub accessed_text : Option ℕ → List ℕ
accessed_text None = codes "\n"
accessed_text (Some address) = codes " accessed " ++ word_hex address ++ codes "\n"

-- the tick and the partition of a line
abbrev pub tag_text : ℕ → ℕ → List ℕ
tag_text n p = codes "[" ++ decimal n ++ codes "] P" ++ decimal p

-- the text of a line; a change of state has the report's
abbrev pub call_text : CallLine → List ℕ
call_text (CallMade n p pc number arguments name result) =
    tag_text n p ++ codes " " ++ word_hex pc ++ codes " " ++ (row_of_call number (call_of number)).name
    ++ flat_map (λ argument. codes " " ++ short_hex argument) arguments ++ name_text name ++ equals_text result ++ codes "\n"
call_text (InterruptTaken n p pc interrupt) = tag_text n p ++ codes " " ++ word_hex pc ++ codes " interrupt " ++ decimal interrupt ++ codes "\n"
call_text (TrapMet n p pc type) = tag_text n p ++ codes " " ++ word_hex pc ++ codes " trap " ++ short_hex type ++ codes "\n"
call_text (HealthMet n p event word accessed answer) =
    tag_text n p ++ codes " HM " ++ (event_row event).text ++ codes " " ++ word_hex word ++ codes " " ++ (action_row answer).text ++ accessed_text accessed
call_text (StateMoved n p to) = moved_text n p to

-- the text of a file
abbrev pub calls_text : List CallLine → List ℕ
calls_text lines = flat_map call_text lines

-- a change of state has the text of the report's line, and so has a health event where nothing was accessed
abbrev pub TextsAsReported : Type 0
TextsAsReported = (lines : List ReportLine) → calls_text (flat_map (met_lines (λ answer. None)) lines) ≡ texts (filter is_met lines)

-- the file of a run, with the lines from a tick on
abbrev pub run_calls : ℕ → Schedule → Machine → ℕ → ℕ → List ℕ
run_calls first s g p count = calls_text (call_lines (view_of g.system p) (since first (own_ticks s g p count)))

-- the file of a run is that of its first ticks, and then that of those after them
abbrev pub CallsInPieces : Type 0
CallsInPieces = (first j k : ℕ) (s : Schedule) (g : Machine) (p : ℕ)
    → run_calls first s g p (j + k) ≡ run_calls first s g p j ++ run_calls first (from_tick j s) (upset_run s g j) p k
