-- Each call was served as it is defined: a call that observes nothing is shown nothing, and an observing one has its number.
use Rattle.std.proofs.Common.{◌≡◌, ◌∙◌, Some, ap, refl}
use Rattle.machine_model.specs.declared.numbers.Call.TheVariants.{ClearIrqmask, CreateQueuingPort, CreateSamplingPort, FlushRegwin, GetQueuingPortStatus, GetSamplingPortStatus, GetSelf, GetTime, HaltPartition, HaltSystem, IdleSelf, Iret, RaiseEvent, RaiseIpvi, ReadInput, ReadSamplingMessage, ReceiveQueuingMessage, ResetPartition, ResetSystem, ResumePartition, SendQueuingMessage, SetIrqmask, SetPsr, SetTbr, SetTimer, ShutdownPartition, SuspendPartition, TraceEvent, WriteConsole, WriteSamplingMessage}
use Rattle.machine_model.specs.LinkCalls.{raise_ipvi}
use Rattle.machine_model.specs.LogCalls.{hm_read, hm_status, raise_event, trace_event, trace_read, trace_status}
use Rattle.machine_model.specs.PartitionCalls.{get_partition_status, get_self, get_system_status, halt_partition, halt_system, idle_self, reset_partition, reset_system, resume_partition, shutdown_partition, suspend_partition}
use Rattle.machine_model.specs.PortCalls.{create_queuing_port, create_sampling_port, get_queuing_port_status, get_sampling_port_status, read_sampling_message, receive_queuing_message, send_queuing_message, write_sampling_message}
use Rattle.machine_model.specs.ProcessorCalls.{clear_irqmask, flush_regwin, iret, read_input, set_irqmask, set_psr, set_tbr, write_console}
use Rattle.machine_model.specs.TimeCalls.{get_plan_status, get_time, set_timer, switch_sched_plan}
use Rattle.machine_model.specs.lemmas.CallLemmas.{call_is_numbered}
use Rattle.hypercalls.proofs.ServingLemmas.{unseen}
use Rattle.hypercalls.proofs.serving.serve_call.Goals as goal

pub returns-in-GetSelf : goal.returns-in-GetSelf
unfolding get_self
returns-in-GetSelf c = rw c.in-GetSelf.is (unseen c.args.site c.args.sys.now c.get_self.new.sys GetSelf _ c.get_self.result (c.requires.call ∙ ap Some c.in-GetSelf.is) (λ view a b c. refl) c.get_self.ensures)

pub returns-in-HaltPartition : goal.returns-in-HaltPartition
unfolding halt_partition
returns-in-HaltPartition c = rw c.in-HaltPartition.is (unseen c.args.site c.args.sys.now c.order_partition.new.sys HaltPartition _ c.order_partition.result (c.requires.call ∙ ap Some c.in-HaltPartition.is) (λ view a b c. refl) c.order_partition.ensures)

pub returns-in-ResetPartition : goal.returns-in-ResetPartition
unfolding reset_partition
returns-in-ResetPartition c = rw c.in-ResetPartition.is (unseen c.args.site c.args.sys.now c.reset_partition.new.sys ResetPartition _ c.reset_partition.result (c.requires.call ∙ ap Some c.in-ResetPartition.is) (λ view a b c. refl) c.reset_partition.ensures)

pub returns-in-SuspendPartition : goal.returns-in-SuspendPartition
unfolding suspend_partition
returns-in-SuspendPartition c = rw c.in-SuspendPartition.is (unseen c.args.site c.args.sys.now c.order_partition-in-SuspendPartition.new.sys SuspendPartition _ c.order_partition-in-SuspendPartition.result (c.requires.call ∙ ap Some c.in-SuspendPartition.is) (λ view a b c. refl) c.order_partition-in-SuspendPartition.ensures)

pub returns-in-ResumePartition : goal.returns-in-ResumePartition
unfolding resume_partition
returns-in-ResumePartition c = rw c.in-ResumePartition.is (unseen c.args.site c.args.sys.now c.order_partition-in-ResumePartition.new.sys ResumePartition _ c.order_partition-in-ResumePartition.result (c.requires.call ∙ ap Some c.in-ResumePartition.is) (λ view a b c. refl) c.order_partition-in-ResumePartition.ensures)

pub returns-in-ShutdownPartition : goal.returns-in-ShutdownPartition
unfolding shutdown_partition
returns-in-ShutdownPartition c = rw c.in-ShutdownPartition.is (unseen c.args.site c.args.sys.now c.order_partition-in-ShutdownPartition.new.sys ShutdownPartition _ c.order_partition-in-ShutdownPartition.result (c.requires.call ∙ ap Some c.in-ShutdownPartition.is) (λ view a b c. refl) c.order_partition-in-ShutdownPartition.ensures)

pub returns-in-IdleSelf : goal.returns-in-IdleSelf
unfolding idle_self
returns-in-IdleSelf c = rw c.in-IdleSelf.is (unseen c.args.site c.args.sys.now c.idle_self.new.sys IdleSelf _ c.idle_self.result (c.requires.call ∙ ap Some c.in-IdleSelf.is) (λ view a b c. refl) c.idle_self.ensures)

pub get_partition_status-requires-clause-number : goal.get_partition_status-requires-clause-number
get_partition_status-requires-clause-number c = call_is_numbered _ _ (c.requires.call ∙ ap Some c.in-GetPartitionStatus.is)

pub returns-in-GetPartitionStatus : goal.returns-in-GetPartitionStatus
unfolding get_partition_status
returns-in-GetPartitionStatus c = rw c.in-GetPartitionStatus.is c.get_partition_status.ensures

pub returns-in-HaltSystem : goal.returns-in-HaltSystem
unfolding halt_system
returns-in-HaltSystem c = rw c.in-HaltSystem.is (unseen c.args.site c.args.sys.now c.halt_system.new.sys HaltSystem _ c.halt_system.result (c.requires.call ∙ ap Some c.in-HaltSystem.is) (λ view a b c. refl) c.halt_system.ensures)

pub returns-in-ResetSystem : goal.returns-in-ResetSystem
unfolding reset_system
returns-in-ResetSystem c = rw c.in-ResetSystem.is (unseen c.args.site c.args.sys.now c.reset_system.new.sys ResetSystem _ c.reset_system.result (c.requires.call ∙ ap Some c.in-ResetSystem.is) (λ view a b c. refl) c.reset_system.ensures)

pub get_system_status-requires-clause-number : goal.get_system_status-requires-clause-number
get_system_status-requires-clause-number c = call_is_numbered _ _ (c.requires.call ∙ ap Some c.in-GetSystemStatus.is)

pub returns-in-GetSystemStatus : goal.returns-in-GetSystemStatus
unfolding get_system_status
returns-in-GetSystemStatus c = rw c.in-GetSystemStatus.is c.get_system_status.ensures

pub returns-in-GetTime : goal.returns-in-GetTime
unfolding get_time
returns-in-GetTime c = rw c.in-GetTime.is (unseen c.args.site c.args.sys.now c.get_time.new.sys GetTime _ c.get_time.result (c.requires.call ∙ ap Some c.in-GetTime.is) (λ view a b c. refl) c.get_time.ensures)

pub returns-in-SetTimer : goal.returns-in-SetTimer
unfolding set_timer
returns-in-SetTimer c = rw c.in-SetTimer.is (unseen c.args.site c.args.sys.now c.set_timer.new.sys SetTimer _ c.set_timer.result (c.requires.call ∙ ap Some c.in-SetTimer.is) (λ view a b c. refl) c.set_timer.ensures)

pub switch_sched_plan-requires-clause-number : goal.switch_sched_plan-requires-clause-number
switch_sched_plan-requires-clause-number c = call_is_numbered _ _ (c.requires.call ∙ ap Some c.in-SwitchSchedPlan.is)

pub returns-in-SwitchSchedPlan : goal.returns-in-SwitchSchedPlan
unfolding switch_sched_plan
returns-in-SwitchSchedPlan c = rw c.in-SwitchSchedPlan.is c.switch_sched_plan.ensures

pub get_plan_status-requires-clause-number : goal.get_plan_status-requires-clause-number
get_plan_status-requires-clause-number c = call_is_numbered _ _ (c.requires.call ∙ ap Some c.in-GetPlanStatus.is)

pub returns-in-GetPlanStatus : goal.returns-in-GetPlanStatus
unfolding get_plan_status
returns-in-GetPlanStatus c = rw c.in-GetPlanStatus.is c.get_plan_status.ensures

pub returns-in-CreateSamplingPort : goal.returns-in-CreateSamplingPort
unfolding create_sampling_port
returns-in-CreateSamplingPort c = rw c.in-CreateSamplingPort.is (unseen c.args.site c.args.sys.now c.create_port.new.sys CreateSamplingPort _ c.create_port.result (c.requires.call ∙ ap Some c.in-CreateSamplingPort.is) (λ view a b c. refl) c.create_port.ensures)

pub returns-in-WriteSamplingMessage : goal.returns-in-WriteSamplingMessage
unfolding write_sampling_message
returns-in-WriteSamplingMessage c = rw c.in-WriteSamplingMessage.is (unseen c.args.site c.args.sys.now c.call_port.new.sys WriteSamplingMessage _ c.call_port.result (c.requires.call ∙ ap Some c.in-WriteSamplingMessage.is) (λ view a b c. refl) c.call_port.ensures)

pub returns-in-ReadSamplingMessage : goal.returns-in-ReadSamplingMessage
unfolding read_sampling_message
returns-in-ReadSamplingMessage c = rw c.in-ReadSamplingMessage.is (unseen c.args.site c.args.sys.now c.call_port-in-ReadSamplingMessage.new.sys ReadSamplingMessage _ c.call_port-in-ReadSamplingMessage.result (c.requires.call ∙ ap Some c.in-ReadSamplingMessage.is) (λ view a b c. refl) c.call_port-in-ReadSamplingMessage.ensures)

pub returns-in-GetSamplingPortStatus : goal.returns-in-GetSamplingPortStatus
unfolding get_sampling_port_status
returns-in-GetSamplingPortStatus c = rw c.in-GetSamplingPortStatus.is (unseen c.args.site c.args.sys.now c.call_port-in-GetSamplingPortStatus.new.sys GetSamplingPortStatus _ c.call_port-in-GetSamplingPortStatus.result (c.requires.call ∙ ap Some c.in-GetSamplingPortStatus.is) (λ view a b c. refl) c.call_port-in-GetSamplingPortStatus.ensures)

pub returns-in-CreateQueuingPort : goal.returns-in-CreateQueuingPort
unfolding create_queuing_port
returns-in-CreateQueuingPort c = rw c.in-CreateQueuingPort.is (unseen c.args.site c.args.sys.now c.create_port-in-CreateQueuingPort.new.sys CreateQueuingPort _ c.create_port-in-CreateQueuingPort.result (c.requires.call ∙ ap Some c.in-CreateQueuingPort.is) (λ view a b c. refl) c.create_port-in-CreateQueuingPort.ensures)

pub returns-in-SendQueuingMessage : goal.returns-in-SendQueuingMessage
unfolding send_queuing_message
returns-in-SendQueuingMessage c = rw c.in-SendQueuingMessage.is (unseen c.args.site c.args.sys.now c.call_port-in-SendQueuingMessage.new.sys SendQueuingMessage _ c.call_port-in-SendQueuingMessage.result (c.requires.call ∙ ap Some c.in-SendQueuingMessage.is) (λ view a b c. refl) c.call_port-in-SendQueuingMessage.ensures)

pub returns-in-ReceiveQueuingMessage : goal.returns-in-ReceiveQueuingMessage
unfolding receive_queuing_message
returns-in-ReceiveQueuingMessage c = rw c.in-ReceiveQueuingMessage.is (unseen c.args.site c.args.sys.now c.call_port-in-ReceiveQueuingMessage.new.sys ReceiveQueuingMessage _ c.call_port-in-ReceiveQueuingMessage.result (c.requires.call ∙ ap Some c.in-ReceiveQueuingMessage.is) (λ view a b c. refl) c.call_port-in-ReceiveQueuingMessage.ensures)

pub returns-in-GetQueuingPortStatus : goal.returns-in-GetQueuingPortStatus
unfolding get_queuing_port_status
returns-in-GetQueuingPortStatus c = rw c.in-GetQueuingPortStatus.is (unseen c.args.site c.args.sys.now c.call_port-in-GetQueuingPortStatus.new.sys GetQueuingPortStatus _ c.call_port-in-GetQueuingPortStatus.result (c.requires.call ∙ ap Some c.in-GetQueuingPortStatus.is) (λ view a b c. refl) c.call_port-in-GetQueuingPortStatus.ensures)

pub returns-in-TraceEvent : goal.returns-in-TraceEvent
unfolding trace_event
returns-in-TraceEvent c = rw c.in-TraceEvent.is (unseen c.args.site c.args.sys.now c.trace_event.new.sys TraceEvent _ c.trace_event.result (c.requires.call ∙ ap Some c.in-TraceEvent.is) (λ view a b c. refl) c.trace_event.ensures)

pub trace_read-requires-clause-number : goal.trace_read-requires-clause-number
trace_read-requires-clause-number c = call_is_numbered _ _ (c.requires.call ∙ ap Some c.in-TraceRead.is)

pub returns-in-TraceRead : goal.returns-in-TraceRead
unfolding trace_read
returns-in-TraceRead c = rw c.in-TraceRead.is c.trace_read.ensures

pub trace_status-requires-clause-number : goal.trace_status-requires-clause-number
trace_status-requires-clause-number c = call_is_numbered _ _ (c.requires.call ∙ ap Some c.in-TraceStatus.is)

pub returns-in-TraceStatus : goal.returns-in-TraceStatus
unfolding trace_status
returns-in-TraceStatus c = rw c.in-TraceStatus.is c.trace_status.ensures

pub returns-in-RaiseEvent : goal.returns-in-RaiseEvent
unfolding raise_event
returns-in-RaiseEvent c = rw c.in-RaiseEvent.is (unseen c.args.site c.args.sys.now c.raise_event.new.sys RaiseEvent _ c.raise_event.result (c.requires.call ∙ ap Some c.in-RaiseEvent.is) (λ view a b c. refl) c.raise_event.ensures)

pub hm_read-requires-clause-number : goal.hm_read-requires-clause-number
hm_read-requires-clause-number c = call_is_numbered _ _ (c.requires.call ∙ ap Some c.in-HmRead.is)

pub returns-in-HmRead : goal.returns-in-HmRead
unfolding hm_read
returns-in-HmRead c = rw c.in-HmRead.is c.hm_read.ensures

pub hm_status-requires-clause-number : goal.hm_status-requires-clause-number
hm_status-requires-clause-number c = call_is_numbered _ _ (c.requires.call ∙ ap Some c.in-HmStatus.is)

pub returns-in-HmStatus : goal.returns-in-HmStatus
unfolding hm_status
returns-in-HmStatus c = rw c.in-HmStatus.is c.hm_status.ensures

pub returns-in-SetIrqmask : goal.returns-in-SetIrqmask
unfolding set_irqmask
returns-in-SetIrqmask c = rw c.in-SetIrqmask.is (unseen c.args.site c.args.sys.now c.set_irqmask.new.sys SetIrqmask _ c.set_irqmask.result (c.requires.call ∙ ap Some c.in-SetIrqmask.is) (λ view a b c. refl) c.set_irqmask.ensures)

pub returns-in-ClearIrqmask : goal.returns-in-ClearIrqmask
unfolding clear_irqmask
returns-in-ClearIrqmask c = rw c.in-ClearIrqmask.is (unseen c.args.site c.args.sys.now c.clear_irqmask.new.sys ClearIrqmask _ c.clear_irqmask.result (c.requires.call ∙ ap Some c.in-ClearIrqmask.is) (λ view a b c. refl) c.clear_irqmask.ensures)

pub returns-in-WriteConsole : goal.returns-in-WriteConsole
unfolding write_console
returns-in-WriteConsole c = rw c.in-WriteConsole.is (unseen c.args.site c.args.sys.now c.write_console.new.sys WriteConsole _ c.write_console.result (c.requires.call ∙ ap Some c.in-WriteConsole.is) (λ view a b c. refl) c.write_console.ensures)

pub returns-in-ReadInput : goal.returns-in-ReadInput
unfolding read_input
returns-in-ReadInput c = rw c.in-ReadInput.is (unseen c.args.site c.args.sys.now c.read_input.new.sys ReadInput _ c.read_input.result (c.requires.call ∙ ap Some c.in-ReadInput.is) (λ view a b c. refl) c.read_input.ensures)

pub returns-in-Iret : goal.returns-in-Iret
unfolding iret
returns-in-Iret c = rw c.in-Iret.is (unseen c.args.site c.args.sys.now c.iret.new.sys Iret _ c.iret.result (c.requires.call ∙ ap Some c.in-Iret.is) (λ view a b c. refl) c.iret.ensures)

pub returns-in-SetPsr : goal.returns-in-SetPsr
unfolding set_psr
returns-in-SetPsr c = rw c.in-SetPsr.is (unseen c.args.site c.args.sys.now c.set_psr.new.sys SetPsr _ c.set_psr.result (c.requires.call ∙ ap Some c.in-SetPsr.is) (λ view a b c. refl) c.set_psr.ensures)

pub returns-in-SetTbr : goal.returns-in-SetTbr
unfolding set_tbr
returns-in-SetTbr c = rw c.in-SetTbr.is (unseen c.args.site c.args.sys.now c.set_tbr.new.sys SetTbr _ c.set_tbr.result (c.requires.call ∙ ap Some c.in-SetTbr.is) (λ view a b c. refl) c.set_tbr.ensures)

pub returns-in-FlushRegwin : goal.returns-in-FlushRegwin
unfolding flush_regwin
returns-in-FlushRegwin c = rw c.in-FlushRegwin.is (unseen c.args.site c.args.sys.now c.flush_regwin.new.sys FlushRegwin _ c.flush_regwin.result (c.requires.call ∙ ap Some c.in-FlushRegwin.is) (λ view a b c. refl) c.flush_regwin.ensures)

pub returns-in-RaiseIpvi : goal.returns-in-RaiseIpvi
unfolding raise_ipvi
returns-in-RaiseIpvi c = rw c.in-RaiseIpvi.is (unseen c.args.site c.args.sys.now c.raise_ipvi.new.sys RaiseIpvi _ c.raise_ipvi.result (c.requires.call ∙ ap Some c.in-RaiseIpvi.is) (λ view a b c. refl) c.raise_ipvi.ensures)
