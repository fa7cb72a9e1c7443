-- What a row computes with: the definitions of each part of the machine, opened where a proof opens their group.
use Rattle.cyclic_plans.specs.PlanClock.{ended, here, in_maintenance, slot_at, started as clock_started}
use Rattle.cyclic_plans.specs.Slots.{frame_of, slots_of}
use Rattle.guest_memory.specs.Loading.{memory_areas as part_areas, areas_with_image as loaded_in}
use Rattle.guest_bus.specs.Access.{loaded as value_loaded}
use Rattle.health_monitor.specs.Monitor.{action_in, effect_of, event_of_type, is_logged}
use Rattle.sparc_code.specs.Decoded.{decoded, format2_row, memory_row, operand, registers_row}
use Rattle.sparc_code.specs.Fields.{annul, cond, disp22, i, imm22, imm7, op, op2, op3, rd, rs1, signed, simm13}
use Rattle.sparc_step.specs.Conditions.{holds, holds_below_eight}
use Rattle.sparc_step.specs.Execution.{turned}
use Rattle.sparc_step.specs.Flow.{branch_row, window_entered, moved, sethi_row, taken, branch_target, trap_turn, trap_type, window_below}
use Rattle.sparc_step.specs.Operands.{sum_of}
use Rattle.sparc_step.specs.Outcome.{with_result}
use Rattle.sparc_step.specs.Registers.{advanced, branched, in_window, register_at, registers_started as core_started, with_icc, with_register}
use Rattle.virt_clocks.specs.Clocks.{looked_at, no_clocks}
use Rattle.virt_traps.specs.Delivery.{at_entry, brought_above, delivered, entered_below, freed_below, restored, returned, virtual_psr}
use Rattle.virt_traps.specs.Moves.{fill_address, filled, spill_address, spilled}
use Rattle.guest_bus.specs.Words.{allows, bytes_of, words_at}
use Rattle.virt_traps.specs.SaveArea.{is_usable, registers_from, saved, with_registers}
use Rattle.virt_traps.specs.Settled.{after_trap, made_again, settled}
use Rattle.virt_traps.specs.Virtual.{interrupt_cleared, due, no_traps, raised}
use Rattle.xm_conf.specs.View.{channel_of, has_end, is_link_of, is_port, link_of, sees}
use Rattle.xm_ports.specs.Channels.{cleared as channel_cleared, put, shapes_of, first_taken}
use Rattle.xm_ports.specs.Ports.{agrees, created_over, granted, is_called, no_ports, port_with}
use Rattle.xm_traces.specs.Ring.{entry_at, noted, nothing_kept}
use Rattle.machine_model.specs.Caller.{with_answer, with_written}
use Rattle.machine_model.specs.Health.{answered_by, entered, event_handled, interrupt_delivered, self_ordered, trap_delivered, undelivered}
use Rattle.machine_model.specs.Hypercalls.{served}
use Rattle.machine_model.specs.LinkCalls.{raise_ipvi}
use Rattle.machine_model.specs.Lines.{end_lines, lines_of, order_lines, step_console, step_lines, step_said}
use Rattle.machine_model.specs.LocalTick.{called, clocked, executed_in_tick, local_tick, with_interrupts, worked}
use Rattle.machine_model.specs.LogCalls.{hm_read, hm_status, raise_event, trace_event, trace_read, trace_status}
use Rattle.machine_model.specs.Machine.{after, after_tick, channel_after, copies, happened, happened_by, local, local_of, next_clock, part_after, sight_of_state, step, tick_of, turn_of}
use Rattle.machine_model.specs.Observed.{asked_by, asks}
use Rattle.machine_model.specs.Partition.{areas_of, disarmed, execution_looked_at, hardware_looked_at, loaded_memory, ordered, ordered_emissions, reset, rested}
use Rattle.machine_model.specs.PartitionCalls.{get_partition_status, get_self, get_system_status, halt_partition, halt_system, idle_self, reset_partition, reset_system, resume_partition, shutdown_partition, suspend_partition}
use Rattle.machine_model.specs.PortCalls.{create_queuing_port, create_sampling_port, get_queuing_port_status, get_sampling_port_status, read_sampling_message, receive_queuing_message, send_queuing_message, write_sampling_message}
use Rattle.machine_model.specs.PortEffects.{made_port}
use Rattle.machine_model.specs.ProcessorCalls.{clear_irqmask, flush_regwin, iret, read_input, set_irqmask, set_psr, set_tbr, write_console}
use Rattle.machine_model.specs.Structures.{counts_bytes, health_bytes, partition_status, plan_status, queuing_status, sampling_status, system_status, trace_bytes}
use Rattle.machine_model.specs.TimeCalls.{get_plan_status, get_time, set_timer, switch_sched_plan}
use Rattle.machine_model.specs.Traffic.{after_message, copies_of}
use Rattle.machine_model.specs.View.{linked, name_of, named, part_of, port_channel, view_of}

-- the plan clock and the slots
unfoldable pub planning : Unit {0}
unfolding clock_started ended frame_of here in_maintenance slot_at slots_of
planning = tt

-- an instruction word and its fields
unfoldable pub decoding : Unit {0}
unfolding annul cond decoded disp22 format2_row i imm22 imm7 memory_row op op2 op3 operand rd registers_row rs1 signed simm13
decoding = tt

-- the registers
unfoldable pub keeping_registers : Unit {0}
unfolding advanced branched core_started in_window register_at with_icc with_register with_result
keeping_registers = tt

-- an instruction
unfoldable pub executing : Unit {0}
unfolding branch_row holds holds_below_eight moved sethi_row sum_of taken branch_target trap_turn trap_type turned value_loaded window_below window_entered
executing = tt

-- virtual traps, spills and fills
unfoldable pub trapping : Unit {0}
unfolding after_trap allows at_entry brought_above bytes_of delivered due entered_below fill_address filled freed_below interrupt_cleared is_usable made_again no_traps raised registers_from restored returned saved settled spill_address spilled virtual_psr with_registers words_at
trapping = tt

-- a partition's clocks
unfoldable pub keeping_time : Unit {0}
unfolding looked_at no_clocks
keeping_time = tt

-- channels, ports and links
unfoldable pub keeping_channels : Unit {0}
unfolding after_message channel_cleared channel_of copies_of agrees created_over first_taken granted has_end is_called is_link_of is_port link_of linked name_of named no_ports part_of port_channel port_with put sees shapes_of view_of
keeping_channels = tt

-- health events and logs
unfoldable pub monitoring : Unit {0}
unfolding action_in answered_by effect_of entered entry_at event_handled event_of_type interrupt_delivered is_logged noted nothing_kept self_ordered trap_delivered undelivered
monitoring = tt

-- hypercalls
unfoldable pub serving : Unit {0}
unfolding clear_irqmask counts_bytes create_queuing_port create_sampling_port flush_regwin get_partition_status get_plan_status get_queuing_port_status get_sampling_port_status get_self get_system_status get_time halt_partition halt_system health_bytes hm_read hm_status idle_self iret made_port partition_status plan_status queuing_status raise_event raise_ipvi read_input read_sampling_message receive_queuing_message reset_partition reset_system resume_partition sampling_status send_queuing_message served set_irqmask set_psr set_tbr set_timer shutdown_partition suspend_partition switch_sched_plan system_status trace_bytes trace_event trace_read trace_status with_answer with_written write_console write_sampling_message
serving = tt

-- partitions and the whole machine
unfoldable pub running : Unit {0}
unfolding after after_tick areas_of part_areas loaded_in asked_by asks called channel_after clocked copies disarmed end_lines executed_in_tick execution_looked_at happened happened_by hardware_looked_at lines_of loaded_memory local local_of local_tick next_clock order_lines ordered ordered_emissions part_after reset rested sight_of_state step step_console step_lines step_said tick_of turn_of with_interrupts worked
running = tt

-- all of them
unfoldable pub computing : Unit {0}
unfolding planning decoding keeping_registers executing trapping keeping_time keeping_channels monitoring serving running
computing = tt
