-- Rows on observing calls: what each asks for and where its answer goes, and what it is shown.
use Rattle.std.specs.Prelude.{◌≡◌, ℕ, Bool, true, false, List, [], ◌∷◌, replicate, ◌++◌, Option, Some, None}
use Rattle.cyclic_plans.specs.PlanClock.{CyclicClock}
use Rattle.guest_bus.specs.Memory.{Memory, with_bytes}
use Rattle.virt_traps.specs.Virtual.{VirtualTraps, no_traps}
use Rattle.xm_base.specs.declared.partition.State.{State}
use Rattle.xm_base.specs.declared.partition.State.TheVariants.{Ready, Idle, Suspended, Halted}
use Rattle.machine_model.specs.rows.CallRows.{Calls, after_answer, in_second_tick, caller, watched, watched_status}
use Rattle.machine_model.specs.rows.LogCallRows.{bytes_of_health_3, bytes_of_health_4, bytes_of_trace_3, health_3, health_4, trace_3, trace_4}
use Rattle.machine_model.specs.Machine.{Machine, answer_to, sight_for}
use Rattle.machine_model.specs.Observed.{CurrentPlan, HealthCounts, HealthEntryOf, PartitionStatus, PlanStatus, Question, SystemStatus, TraceCounts, TraceEntryOf, asks, observed_by}
use Rattle.machine_model.specs.rows.OwnRows.{by_itself}
use Rattle.machine_model.specs.Partition.{PartitionState}
use Rattle.machine_model.specs.rows.Rows.{Leaves, at, calling}
use Rattle.machine_model.specs.rows.ServedRows.{view_for, with_call}
use Rattle.machine_model.specs.Structures.{plan_status}
use Rattle.machine_model.specs.Emission.{NotKept, Sight, Unseen, Words}
use Rattle.xm_traces.specs.Ring.{kept_of}

-- a system partition that calls with these outs asks for this; partition 2 of four, under three plans
abbrev pub AsksFor : List ℕ → Question → ℕ → ℕ → Memory → Type 0
AsksFor outs question address size memory =
    observed_by (view_for true) (with_call outs memory).core ≡ Some (record { question = question; address = address; size = size })

-- one with or without the flag asks for nothing
abbrev pub AsksNothing : Bool → List ℕ → Memory → Type 0
AsksNothing is_system outs memory = observed_by (view_for is_system) (with_call outs memory).core ≡ None

-- a call on another partition that there is asks for something of it, and nothing without the flag, of itself, or of one that is not there
abbrev pub AsksOfOther : ℕ → Memory → Type 0
AsksOfOther number memory =
    AsksNothing false (number ∷ 3 ∷ 7 ∷ 9 ∷ []) memory
    × AsksNothing true (number ∷ 2 ∷ 7 ∷ 9 ∷ []) memory
    × AsksNothing true (number ∷ 4 ∷ 7 ∷ 9 ∷ []) memory

-- what each observing call asks for, and the place and the size of the answer
pub record AskingRows : Type 0 where
  pub partition_status : (memory : Memory) → AsksFor (8 ∷ 3 ∷ 7 ∷ []) (PartitionStatus 3) 7 20 memory × AsksOfOther 8 memory
  pub system_status : (memory : Memory) → AsksFor (11 ∷ 7 ∷ []) SystemStatus 7 8 memory × AsksNothing false (11 ∷ 7 ∷ []) memory
  pub current_plan : (memory : Memory) →
      AsksFor (14 ∷ 2 ∷ 7 ∷ []) CurrentPlan 7 4 memory
      × AsksNothing true (14 ∷ 0 ∷ 7 ∷ []) memory
      × AsksNothing true (14 ∷ 3 ∷ 7 ∷ []) memory
      × AsksNothing false (14 ∷ 2 ∷ 7 ∷ []) memory
  pub plan_status : (memory : Memory) → AsksFor (15 ∷ 7 ∷ []) PlanStatus 7 20 memory × AsksNothing false (15 ∷ 7 ∷ []) memory
  pub trace_read : (memory : Memory) → AsksFor (25 ∷ 3 ∷ 7 ∷ 9 ∷ []) (TraceEntryOf 3 7) 9 24 memory × AsksOfOther 25 memory
  pub trace_status : (memory : Memory) → AsksFor (26 ∷ 0 ∷ 7 ∷ []) (TraceCounts 0) 7 8 memory × AsksOfOther 26 memory
  pub hm_read : (memory : Memory) → AsksFor (28 ∷ 3 ∷ 7 ∷ 9 ∷ []) (HealthEntryOf 3 7) 9 20 memory × AsksOfOther 28 memory
  pub hm_status : (memory : Memory) → AsksFor (29 ∷ 3 ∷ 7 ∷ []) (HealthCounts 3) 7 8 memory × AsksOfOther 29 memory
  pub no_other : (memory : Memory) →
      AsksNothing true (12 ∷ 1 ∷ 7 ∷ []) memory × AsksNothing true (24 ∷ 3 ∷ 7 ∷ []) memory × AsksNothing true (27 ∷ 3 ∷ 7 ∷ []) memory × AsksNothing true (38 ∷ 3 ∷ 7 ∷ []) memory × AsksNothing true (39 ∷ 3 ∷ 7 ∷ []) memory

-- two partitions, the second of which has a state of its own and entries, after 258 resets of the hypervisor, under plan 1 with plan 2 asked for
abbrev pub observed_machine : Memory → Memory → Machine
observed_machine one other =
    record (in_second_tick true (at 0x40000000 one) (record (watched other) { traces = kept_of 5 (trace_3 ∷ trace_4 ∷ []); health = kept_of 6 (health_3 ∷ health_4 ∷ []) })) {
      clock = record { plan = 1; frame_start = 0; asked = Some 2 };
      resets = 258;
    }

-- an answer to a question about it
abbrev pub Shows : Question → Sight → Type 0
Shows question sight = (one other : Memory) → answer_to (observed_machine one other) question ≡ sight

-- what each question is answered: plan 1 is not there, so that no slot runs
pub record AnswerRows : Type 0 where
  pub partition_status : Shows (PartitionStatus 1) (Words watched_status)
  pub no_partition : Shows (PartitionStatus 2) Unseen
  pub system_status : Shows SystemStatus (Words (0 ∷ 0 ∷ 1 ∷ 2 ∷ 0 ∷ 0 ∷ 0 ∷ 2 ∷ []))
  pub current_plan : Shows CurrentPlan (Words (0 ∷ 0 ∷ 0 ∷ 1 ∷ []))
  pub plan_status : Shows PlanStatus (Words (replicate 8 0 ++ 0 ∷ 0 ∷ 0 ∷ 1 ∷ 0 ∷ 0 ∷ 0 ∷ 2 ∷ 255 ∷ 255 ∷ 255 ∷ 255 ∷ []))
  pub trace_entry : Shows (TraceEntryOf 1 3) (Words bytes_of_trace_3)
  pub trace_not_kept : Shows (TraceEntryOf 1 2) NotKept
  pub no_trace_yet : Shows (TraceEntryOf 1 5) NotKept
  pub trace_counts : Shows (TraceCounts 1) (Words (0 ∷ 0 ∷ 0 ∷ 3 ∷ 0 ∷ 0 ∷ 0 ∷ 5 ∷ []))
  pub health_entry : Shows (HealthEntryOf 1 4) (Words bytes_of_health_3)
  pub last_health_entry : Shows (HealthEntryOf 1 5) (Words bytes_of_health_4)
  pub health_not_kept : Shows (HealthEntryOf 1 3) NotKept
  pub health_counts : Shows (HealthCounts 1) (Words (0 ∷ 0 ∷ 0 ∷ 4 ∷ 0 ∷ 0 ∷ 0 ∷ 6 ∷ []))

-- the status of a plan: when its frame began, its number, the plan that is asked for, and the slot, each of the last two where there is one
abbrev pub plan_clock_with : Option ℕ → CyclicClock
plan_clock_with asked = record { plan = 3; frame_start = 0x0102_0304_0506_0708; asked = asked }

pub record PlanStatusRows : Type 0 where
  pub asked : plan_status (plan_clock_with (Some 2)) (Some (record { slot = 5; part = 1; first = true }))
      ≡ 1 ∷ 2 ∷ 3 ∷ 4 ∷ 5 ∷ 6 ∷ 7 ∷ 8 ∷ 0 ∷ 0 ∷ 0 ∷ 3 ∷ 0 ∷ 0 ∷ 0 ∷ 2 ∷ 0 ∷ 0 ∷ 0 ∷ 5 ∷ []
  pub in_gap : plan_status (plan_clock_with None) None
      ≡ 1 ∷ 2 ∷ 3 ∷ 4 ∷ 5 ∷ 6 ∷ 7 ∷ 8 ∷ 0 ∷ 0 ∷ 0 ∷ 3 ∷ 255 ∷ 255 ∷ 255 ∷ 255 ∷ 255 ∷ 255 ∷ 255 ∷ 255 ∷ []

-- bytes are shown where the partition may write all of them; that an entry is not kept is shown in any case
abbrev pub Sees : Question → ℕ → ℕ → Sight → Type 0
Sees question address size sight = (one other : Memory) →
    sight_for (observed_machine one other) (view_for true) (Some (record { question = question; address = address; size = size })) ≡ sight

pub record RoomRows : Type 0 where
  pub room : Sees (PartitionStatus 1) 0x102c 20 (Words watched_status)
  pub no_room : Sees (PartitionStatus 1) 0x102d 20 Unseen
  pub read_only : Sees SystemStatus 0x2000 8 Unseen
  pub not_kept : Sees (TraceEntryOf 1 2) 0x2000 24 NotKept
  pub nothing : (one other : Memory) → sight_for (observed_machine one other) (view_for true) None ≡ Unseen

-- a partition in a state, with interrupt 0 pending and unmasked or masked, that takes traps or not
abbrev pub observer : State → ℕ → Bool → Memory → PartitionState
observer state mask enabled memory = record (with_call (11 ∷ 0x1000 ∷ []) memory) {
  state = state;
  traps = record { enabled = enabled; base = 0x40001000; pending = 1; mask = mask };
}

-- nothing is asked where an interrupt is delivered instead of the call, where an idle partition is not woken, and where a partition takes no turn
pub record SilentRows : Type 0 where
  pub delivered : (memory : Memory) → asks (view_for true) (observer Ready 0xffff_fffe true memory) 9 false ≡ None
  pub idle : (memory : Memory) → asks (view_for true) (observer Idle 0xffff_ffff true memory) 9 false ≡ None
  pub suspended : (memory : Memory) → asks (view_for true) (observer Suspended 0xffff_fffe false memory) 9 true ≡ None
  pub halted : (memory : Memory) → asks (view_for true) (observer Halted 0xffff_fffe false memory) 9 true ≡ None

-- a partition with these virtual traps, which makes call 15
abbrev pub asking_plan : VirtualTraps → Memory → PartitionState
asking_plan traps memory = record (calling 0x40000000 (15 ∷ 0x40000004 ∷ []) memory) { traps = traps }

-- it is shown the status of plan 0 with plan 7 asked for, in slot 0
abbrev pub SeesPlanUnder : VirtualTraps → Type 0
SeesPlanUnder traps = (memory : Memory) → Calls (caller true) memory
    → Leaves (λ g. g.parts) (record (by_itself (caller true) (asking_plan traps memory)) { clock = record { plan = 0; frame_start = 0; asked = Some 7 } }) 1
    (record (after_answer 0 (asking_plan traps memory)) {
      memory = with_bytes memory 0x40000004 (replicate 8 0 ++ 0 ∷ 0 ∷ 0 ∷ 0 ∷ 0 ∷ 0 ∷ 0 ∷ 7 ∷ 0 ∷ 0 ∷ 0 ∷ 0 ∷ []);
    } ∷ [])

-- call 15 in a tick; it is made, too, where interrupt 5 is due and traps are disabled
abbrev pub SeesPlan : Type 0
SeesPlan = SeesPlanUnder no_traps × SeesPlanUnder (record no_traps { pending = 32; mask = 0xffff_ffdf })
