-- Rows on the calls on partitions and on the whole system, numbers 1 to 11: the result and the effect of each, and each of its tests at its edge.
use Rattle.std.specs.Prelude.{ℕ, true, false, List, [], ◌∷◌}
use Rattle.guest_bus.specs.Memory.{Memory}
use Rattle.virt_clocks.specs.Clocks.{no_clocks}
use Rattle.xm_base.specs.declared.partition.Mode.TheVariants.{Cold, Warm}
use Rattle.xm_base.specs.declared.partition.Order.{Order}
use Rattle.xm_base.specs.declared.partition.Order.TheVariants as order
use Rattle.xm_base.specs.declared.partition.State.TheVariants.{Idle}
use Rattle.machine_model.specs.Partition.{PartitionState}
use Rattle.machine_model.specs.rows.ServedRows.{AnswersWith, DoesAct, Leads, WritesAnswer, call, made_by, minus, shown_call, view_for, with_call}
use Rattle.machine_model.specs.Emission.{AllHalted, AllReset, Upon, UponAll, Words}

-- call 1: the caller's number
abbrev pub GetsItself : Type 0
GetsItself = (memory : Memory) → AnswersWith (call false (1 ∷ []) memory) 2 × AnswersWith (call true (1 ∷ []) memory) 2

-- an order by the call of this number: without the system flag only on oneself, and with it on each partition that there is
abbrev pub Orders : ℕ → Order → Type 0
Orders number an_order = (memory : Memory) →
    DoesAct (call false (number ∷ 2 ∷ []) memory) (Upon 2 an_order)
    × AnswersWith (call false (number ∷ 3 ∷ []) memory) (minus 4)
    × AnswersWith (call false (number ∷ 4 ∷ []) memory) (minus 4)
    × DoesAct (call true (number ∷ 2 ∷ []) memory) (Upon 2 an_order)
    × DoesAct (call true (number ∷ 0 ∷ []) memory) (Upon 0 an_order)
    × DoesAct (call true (number ∷ 3 ∷ []) memory) (Upon 3 an_order)
    × AnswersWith (call true (number ∷ 4 ∷ []) memory) (minus 3)

-- call 3: the way and the status of a reset; the partition is tested first, and then the way
abbrev pub Resets : Type 0
Resets = (memory : Memory) →
    DoesAct (call false (3 ∷ 2 ∷ 0 ∷ 9 ∷ []) memory) (Upon 2 (order.Reset Cold 9))
    × DoesAct (call false (3 ∷ 2 ∷ 1 ∷ 0xffff_ffff ∷ []) memory) (Upon 2 (order.Reset Warm 0xffff_ffff))
    × AnswersWith (call false (3 ∷ 2 ∷ 2 ∷ 9 ∷ []) memory) (minus 6)
    × AnswersWith (call false (3 ∷ 3 ∷ 2 ∷ 9 ∷ []) memory) (minus 4)
    × DoesAct (call true (3 ∷ 3 ∷ 1 ∷ 9 ∷ []) memory) (Upon 3 (order.Reset Warm 9))
    × AnswersWith (call true (3 ∷ 3 ∷ 2 ∷ 9 ∷ []) memory) (minus 6)
    × AnswersWith (call true (3 ∷ 4 ∷ 2 ∷ 9 ∷ []) memory) (minus 3)

-- call 7: the caller is idle
abbrev pub CallIdles : Type 0
CallIdles = (memory : Memory) → Leads (call false (7 ∷ []) memory) 0 (record (with_call (7 ∷ []) memory) { state = Idle })

-- a partition that was reset three times, the last time with status 10, after 258 ticks of its own, and calls
abbrev pub worn : List ℕ → Memory → PartitionState
worn outs memory = record (with_call outs memory) { resets = 3; reset_status = 10; clocks = record no_clocks { execution = 258 } }

-- its status, 20 bytes
abbrev pub worn_status : List ℕ
worn_status = 0 ∷ 0 ∷ 0 ∷ 0 ∷ 0 ∷ 0 ∷ 0 ∷ 3 ∷ 0 ∷ 0 ∷ 0 ∷ 10 ∷ 0 ∷ 0 ∷ 0 ∷ 0 ∷ 0 ∷ 0 ∷ 1 ∷ 2 ∷ []

-- call 8: the caller's own status, or what it is shown of another; 20 bytes have to be writable
abbrev pub SeesStatus : Type 0
SeesStatus = (memory : Memory) →
    WritesAnswer (made_by (view_for false) (worn (8 ∷ 2 ∷ 0x102c ∷ []) memory)) 0 0x102c worn_status
    × AnswersWith (made_by (view_for false) (worn (8 ∷ 2 ∷ 0x102d ∷ []) memory)) (minus 3)
    × AnswersWith (call false (8 ∷ 2 ∷ 0xfff ∷ []) memory) (minus 3)
    × AnswersWith (call false (8 ∷ 2 ∷ 0x2000 ∷ []) memory) (minus 3)
    × AnswersWith (call false (8 ∷ 3 ∷ 0x102d ∷ []) memory) (minus 4)
    × WritesAnswer (record (made_by (view_for true) (worn (8 ∷ 2 ∷ 0x1000 ∷ []) memory)) { sight = Words (5 ∷ 6 ∷ []) }) 0 0x1000 worn_status
    × WritesAnswer (shown_call (Words (5 ∷ 6 ∷ [])) (8 ∷ 3 ∷ 0x102c ∷ []) memory) 0 0x102c (5 ∷ 6 ∷ [])
    × AnswersWith (call true (8 ∷ 3 ∷ 0x102d ∷ []) memory) (minus 3)
    × AnswersWith (call true (8 ∷ 4 ∷ 0x102c ∷ []) memory) (minus 3)

-- call 9: a system partition halts the hypervisor
abbrev pub CallHaltsSystem : Type 0
CallHaltsSystem = (memory : Memory) → DoesAct (call true (9 ∷ []) memory) (UponAll AllHalted) × AnswersWith (call false (9 ∷ []) memory) (minus 4)

-- call 10: a system partition resets the hypervisor; the caller is tested first, and then the way
abbrev pub ResetsSystem : Type 0
ResetsSystem = (memory : Memory) →
    DoesAct (call true (10 ∷ 0 ∷ []) memory) (UponAll (AllReset Cold))
    × DoesAct (call true (10 ∷ 1 ∷ []) memory) (UponAll (AllReset Warm))
    × AnswersWith (call true (10 ∷ 2 ∷ []) memory) (minus 6)
    × AnswersWith (call false (10 ∷ 2 ∷ []) memory) (minus 4)

-- call 11: what a system partition is shown of the system; 8 bytes have to be writable
abbrev pub SeesSystemStatus : Type 0
SeesSystemStatus = (memory : Memory) →
    WritesAnswer (shown_call (Words (5 ∷ 6 ∷ [])) (11 ∷ 0x1038 ∷ []) memory) 0 0x1038 (5 ∷ 6 ∷ [])
    × AnswersWith (call true (11 ∷ 0x1039 ∷ []) memory) (minus 3)
    × AnswersWith (call true (11 ∷ 0x2000 ∷ []) memory) (minus 3)
    × AnswersWith (call false (11 ∷ 0x1039 ∷ []) memory) (minus 4)

-- the rows of calls 1 to 11
pub record PartitionCallRows : Type 0 where
  pub get_self : GetsItself
  pub halt_partition : Orders 2 order.Halt
  pub reset_partition : Resets
  pub suspend_partition : Orders 4 order.Suspend
  pub resume_partition : Orders 5 order.Resume
  pub shutdown_partition : Orders 6 order.Shutdown
  pub idle_self : CallIdles
  pub get_partition_status : SeesStatus
  pub halt_system : CallHaltsSystem
  pub reset_system : ResetsSystem
  pub get_system_status : SeesSystemStatus
