-- The calls on partitions and on the whole system: numbers 1 to 11.
use Rattle.xm_base.specs.declared.partition.Order.{Order}
use Rattle.machine_model.specs.Caller.{Caller, Served, a_of}
use Rattle.machine_model.specs.Calls.{GetPartitionStatus, GetSelf, GetSystemStatus, HaltPartition, HaltSystem, IdleSelf, ResetPartition, ResetSystem, ResumePartition, ShutdownPartition, SuspendPartition, effect_of_call}
use Rattle.machine_model.specs.Effects.{GivesOrder, comes_to, performed}

-- call 1, XM_get_self: the caller's number
unfoldable pub get_self : Caller → Served
get_self caller = performed (effect_of_call GetSelf caller) caller

-- an order on the partition that the call names
abbrev pub ordering : Order → Caller → Served
ordering an_order caller = comes_to (GivesOrder (a_of caller) an_order) caller

-- call 2, XM_halt_partition(a)
unfoldable pub halt_partition : Caller → Served
halt_partition caller = performed (effect_of_call HaltPartition caller) caller

-- call 3, XM_reset_partition(a, b, c): cold or warm by b, with the status c
unfoldable pub reset_partition : Caller → Served
reset_partition caller = performed (effect_of_call ResetPartition caller) caller

-- call 4, XM_suspend_partition(a)
unfoldable pub suspend_partition : Caller → Served
suspend_partition caller = performed (effect_of_call SuspendPartition caller) caller

-- call 5, XM_resume_partition(a)
unfoldable pub resume_partition : Caller → Served
resume_partition caller = performed (effect_of_call ResumePartition caller) caller

-- call 6, XM_shutdown_partition(a)
unfoldable pub shutdown_partition : Caller → Served
shutdown_partition caller = performed (effect_of_call ShutdownPartition caller) caller

-- call 7, XM_idle_self: the caller waits for its next slot or an interrupt
unfoldable pub idle_self : Caller → Served
idle_self caller = performed (effect_of_call IdleSelf caller) caller

-- call 8, XM_get_partition_status(a, b): the status, as before the end of this tick, at b
unfoldable pub get_partition_status : Caller → Served
get_partition_status caller = performed (effect_of_call GetPartitionStatus caller) caller

-- call 9, XM_halt_system
unfoldable pub halt_system : Caller → Served
halt_system caller = performed (effect_of_call HaltSystem caller) caller

-- call 10, XM_reset_system(a): cold or warm by a
unfoldable pub reset_system : Caller → Served
reset_system caller = performed (effect_of_call ResetSystem caller) caller

-- call 11, XM_get_system_status(a)
unfoldable pub get_system_status : Caller → Served
get_system_status caller = performed (effect_of_call GetSystemStatus caller) caller
