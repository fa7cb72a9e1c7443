-- What a hypercall is given, the tests that it makes, and how it answers.
use Rattle.std.specs.Prelude.{ℕ, zero, suc, ◌-◌, ◌^◌, ◌==◌, Bool, true, false, ◌||◌, not, nat_lt, if◌then◌else◌, List, [], ◌∷◌, Option, Some, None}
use Rattle.guest_bus.specs.Memory.{all_from, bytes_at, is_readable, is_writable, with_bytes}
use Rattle.sparc_step.specs.Registers.{register_at, with_register}
use Rattle.xm_base.specs.declared.partition.Mode.{Mode}
use Rattle.xm_base.specs.declared.partition.Mode.TheVariants.{Cold, Warm}
use Rattle.xm_conf.specs.declared.health.Event.{Event}
use Rattle.xm_ports.specs.Channels.{Content}
use Rattle.machine_model.specs.Partition.{PartitionState, areas_of}
use Rattle.machine_model.specs.Emission.{Act, Nothing, Sight, Emission, Unseen, NotKept, Words}
use Rattle.machine_model.specs.View.{PartitionView}

-- what a hypercall is given: the partition with its view, its copies of channels under its own names, the hardware clock,
-- what an observing call is shown, and the program counters of the trap instruction; the core has gone on after it
pub record Caller : Type 0 where
  pub view : PartitionView
  pub state : PartitionState
  pub contents : List (Option Content)
  pub time : ℕ
  pub sight : Sight
  pub pc : ℕ
  pub npc : ℕ

-- the outcome of a hypercall: it acts, or it is answered by a health event with its word
pub data Upshot : Type 0 where
  Acts : (act : Act) → Upshot
  Meets : (event : Event) (word : ℕ) → Upshot

-- what a hypercall leaves
pub record Served : Type 0 where
  pub after : PartitionState
  pub emitted : List Emission
  pub upshot : Upshot

-- the number of the call stands in %o0, and its arguments a to e in %o1 to %o5
abbrev pub number_of : Caller → ℕ
number_of caller = register_at caller.state.core 8

abbrev pub a_of : Caller → ℕ
a_of caller = register_at caller.state.core 9

abbrev pub b_of : Caller → ℕ
b_of caller = register_at caller.state.core 10

abbrev pub c_of : Caller → ℕ
c_of caller = register_at caller.state.core 11

abbrev pub d_of : Caller → ℕ
d_of caller = register_at caller.state.core 12

abbrev pub e_of : Caller → ℕ
e_of caller = register_at caller.state.core 13

-- the negative results as words
abbrev pub no_action : ℕ
no_action = 2 ^ 32 - 1

abbrev pub unknown_call : ℕ
unknown_call = 2 ^ 32 - 2

abbrev pub invalid_parameter : ℕ
invalid_parameter = 2 ^ 32 - 3

abbrev pub no_permission : ℕ
no_permission = 2 ^ 32 - 4

abbrev pub invalid_configuration : ℕ
invalid_configuration = 2 ^ 32 - 5

abbrev pub invalid_mode : ℕ
invalid_mode = 2 ^ 32 - 6

abbrev pub not_available : ℕ
not_available = 2 ^ 32 - 7

abbrev pub not_allowed : ℕ
not_allowed = 2 ^ 32 - 8

-- the partition with a call's result in %o0
unfoldable pub with_answer : ℕ → PartitionState → PartitionState
with_answer value ps = record ps { core = with_register ps.core 8 value }

-- the partition with these bytes in its memory
unfoldable pub with_written : ℕ → List ℕ → PartitionState → PartitionState
with_written address bytes ps = record ps { memory = with_bytes ps.memory address bytes }

-- a call that acts, with its result and what it leaves of the partition
abbrev pub acting : Act → ℕ → PartitionState → Served
acting act value ps = record { after = with_answer value ps; emitted = []; upshot = Acts act }

-- a call that answers and leaves this of the partition
abbrev pub answering : ℕ → PartitionState → Served
answering value ps = acting Nothing value ps

-- a test of a call: the result of one that is refused
abbrev pub Test : Type 0
Test = Option ℕ

-- the call is refused with this result where it is so
abbrev pub refused_if : Bool → ℕ → Test
refused_if true code = Some code
refused_if false code = None

-- tests in order: the first that holds answers, and changes nothing but %o0
abbrev pub tested : List Test → Caller → Served → Served
tested [] caller served = served
tested (Some code ∷ tests) caller served = answering code caller.state
tested (None ∷ tests) caller served = tested tests caller served

-- the caller is no system partition
abbrev pub is_not_system : Caller → Bool
is_not_system caller = not caller.view.part.system

-- only a system partition may call
abbrev pub system_only : Caller → Test
system_only caller = refused_if (is_not_system caller) no_permission

-- a partition that may be named is the caller; for a system partition it is any that there is
abbrev pub target : Caller → ℕ → Test
target caller id =
    if id == caller.view.id then None
    else if is_not_system caller then Some no_permission
    else refused_if (not (nat_lt id caller.view.sees.parts)) invalid_parameter

-- all of this many bytes may be written
abbrev pub is_room : Caller → ℕ → ℕ → Bool
is_room caller address size = all_from (is_writable (areas_of caller.view)) address size

-- a range that may not all be written
abbrev pub room : Caller → ℕ → ℕ → Test
room caller address size = refused_if (not (is_room caller address size)) invalid_parameter

-- a range that may not all be read
abbrev pub text : Caller → ℕ → ℕ → Test
text caller address size = refused_if (not (all_from (is_readable (areas_of caller.view)) address size)) invalid_parameter

-- the bytes of a range
abbrev pub caller_bytes : Caller → ℕ → ℕ → List ℕ
caller_bytes caller address size = bytes_at caller.state.memory address size

-- neither of the two numbers 0 and 1
abbrev pub is_neither : ℕ → Bool
is_neither n = not (n == 0 || n == 1)

-- the way of resetting with a number: 0 is cold, 1 is warm
abbrev pub mode_numbered : ℕ → Mode
mode_numbered zero = Cold
mode_numbered (suc n) = Warm

-- the bytes that an observing call is shown
abbrev pub shown : Sight → List ℕ
shown Unseen = []
shown NotKept = []
shown (Words bytes) = bytes

-- whether an observing call is shown that the entry is not kept
abbrev pub is_not_kept : Sight → Bool
is_not_kept Unseen = false
is_not_kept NotKept = true
is_not_kept (Words bytes) = false
