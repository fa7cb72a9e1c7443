-- The forms of the rows on one hypercall: who makes it, and its outcome.
use Rattle.std.specs.Prelude.{◌≡◌, ℕ, ◌-◌, ◌^◌, Bool, true, false, List, [], ◌∷◌}
use Rattle.guest_bus.specs.Memory.{Memory, with_bytes}
use Rattle.sparc_step.specs.Registers.{with_register}
use Rattle.xm_conf.specs.Configuration.{Part}
use Rattle.xm_conf.specs.declared.conf.Seen.{Seen}
use Rattle.machine_model.specs.Caller.{Acts, Caller, Served}
use Rattle.machine_model.specs.Hypercalls.{served}
use Rattle.machine_model.specs.Partition.{PartitionState}
use Rattle.machine_model.specs.rows.Rows.{area, calling, plain_part}
use Rattle.machine_model.specs.Emission.{Act, Nothing, Sight, Unseen}
use Rattle.machine_model.specs.View.{PartitionView, no_image}

-- the negative results as words
abbrev pub minus : ℕ → ℕ
minus n = 2 ^ 32 - n

-- a partition with 64 bytes that may be written, and 64 that may only be read
abbrev pub calling_part : Bool → Part
calling_part is_system = record (plain_part 0x1000 64) {
  system = is_system;
  areas = area 0x1000 64 ∷ record (area 0x2000 64) { read_only = true } ∷ [];
  trace_mask = 6;
}

-- what a system partition sees: four partitions and three plans
abbrev pub seen_by : Bool → Seen
seen_by true = record { parts = 4; plans = 3 }
seen_by false = record { parts = 0; plans = 0 }

-- it is partition 2
abbrev pub view_for : Bool → PartitionView
view_for is_system = record {
  id = 2;
  part = calling_part is_system;
  image = no_image;
  inputs = [];
  channels = [];
  links = [];
  sees = seen_by is_system;
}

-- a partition in this state calls in tick 9, by an instruction in the delay slot of a jump, and is shown nothing
abbrev pub made_by : PartitionView → PartitionState → Caller
made_by view ps = record { view = view; state = ps; contents = []; time = 9; sight = Unseen; pc = 0x1004; npc = 0x1020 }

-- a partition with these values in its outs, after that instruction
abbrev pub with_call : List ℕ → Memory → PartitionState
with_call outs memory = calling 0x1020 outs memory

-- a call with these values in its outs: the number of the call, and its arguments
abbrev pub call : Bool → List ℕ → Memory → Caller
call is_system outs memory = made_by (view_for is_system) (with_call outs memory)

-- a call that is shown this
abbrev pub shown_call : Sight → List ℕ → Memory → Caller
shown_call sight outs memory = record (call true outs memory) { sight = sight }

-- a partition with a result in %o0
abbrev pub with_o0 : ℕ → PartitionState → PartitionState
with_o0 value ps = record ps { core = with_register ps.core 8 value }

-- a call that reports nothing and has this act, with its result and what else it leaves of the partition
abbrev pub served_so : ℕ → Act → PartitionState → Served
served_so value act ps = record { after = with_o0 value ps; emitted = []; upshot = Acts act }

-- the outcome of a call is this
abbrev pub ComesTo : Caller → Served → Type 0
ComesTo caller comes = served caller ≡ comes

-- a call is answered so, and nothing else of the partition changes
abbrev pub AnswersWith : Caller → ℕ → Type 0
AnswersWith caller value = ComesTo caller (served_so value Nothing caller.state)

-- a call is answered so, and leaves this of the partition
abbrev pub Leads : Caller → ℕ → PartitionState → Type 0
Leads caller value ps = ComesTo caller (served_so value Nothing ps)

-- a partition with these bytes written at an address
abbrev pub written : ℕ → List ℕ → PartitionState → PartitionState
written address bytes ps = record ps { memory = with_bytes ps.memory address bytes }

-- a call is answered so, and these bytes are written at an address
abbrev pub WritesAnswer : Caller → ℕ → ℕ → List ℕ → Type 0
WritesAnswer caller value address bytes = Leads caller value (written address bytes caller.state)

-- a call is answered 0, and has this act
abbrev pub DoesAct : Caller → Act → Type 0
DoesAct caller act = ComesTo caller (served_so 0 act caller.state)
