-- The calls on made ports, by the kind of the port and by what they do with it.
use Rattle.xm_conf.specs.declared.port.Kind.{Kind}
use Rattle.xm_conf.specs.declared.port.Kind.TheVariants as kind
use Rattle.machine_model.specs.Caller.{Caller, Served}
use Rattle.machine_model.specs.PortCalls.{get_queuing_port_status, get_sampling_port_status, read_sampling_message, receive_queuing_message, send_queuing_message, write_sampling_message}
use Rattle.port_calls.specs.declared.on_ports.PortWork.{PortWork}
use Rattle.port_calls.specs.declared.on_ports.PortWork.TheVariants as work

-- the call that does this with a port of a kind
abbrev pub call_on : Kind → PortWork → Caller → Served
call_on kind.Sampling work.Send = write_sampling_message
call_on kind.Sampling work.Receive = read_sampling_message
call_on kind.Sampling work.Status = get_sampling_port_status
call_on kind.Queuing work.Send = send_queuing_message
call_on kind.Queuing work.Receive = receive_queuing_message
call_on kind.Queuing work.Status = get_queuing_port_status
