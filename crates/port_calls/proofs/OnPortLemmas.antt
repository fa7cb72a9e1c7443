-- The calls on made ports, by whether the port is made.
use Rattle.std.proofs.Common.{◌≡◌, None, Some, refl, ◌∙◌}
use Rattle.machine_model.specs.Caller.{Caller, answering, invalid_parameter}
use Rattle.machine_model.specs.PortEffects.{MadePort, made_port, on_port}
use Rattle.machine_model.specs.PortCalls.{get_queuing_port_status, get_sampling_port_status, read_sampling_message, receive_queuing_message, send_queuing_message, write_sampling_message}
use Rattle.xm_conf.specs.declared.port.Kind.{Kind}
use Rattle.xm_conf.specs.declared.port.Kind.TheVariants as kind
use Rattle.port_calls.specs.OnPorts.{call_on}
use Rattle.port_calls.specs.lemmas.OnPortsTerms.{done_on}
use Rattle.port_calls.specs.declared.on_ports.PortWork.{PortWork}
use Rattle.port_calls.specs.declared.on_ports.PortWork.TheVariants as work
use Rattle.port_calls.proofs.MessageLemmas.{on_made, on_unmade}

-- each call is one on the made port that it names
call_is : (the_kind : Kind) (the_work : PortWork) (caller : Caller) → call_on the_kind the_work caller ≡ on_port (made_port the_kind caller) caller (done_on the_kind the_work caller)
unfolding get_queuing_port_status get_sampling_port_status read_sampling_message receive_queuing_message send_queuing_message write_sampling_message
call_is kind.Sampling work.Send caller = refl
call_is kind.Sampling work.Receive caller = refl
call_is kind.Sampling work.Status caller = refl
call_is kind.Queuing work.Send caller = refl
call_is kind.Queuing work.Receive caller = refl
call_is kind.Queuing work.Status caller = refl

-- where it is not made
pub call_unmade : (the_kind : Kind) (the_work : PortWork) (caller : Caller) → None ≡ made_port the_kind caller → call_on the_kind the_work caller ≡ answering invalid_parameter caller.state
call_unmade the_kind the_work caller none = call_is the_kind the_work caller ∙ on_unmade the_kind caller (done_on the_kind the_work caller) none

-- and where it is
pub call_made : (the_kind : Kind) (the_work : PortWork) (caller : Caller) (port : MadePort) → Some port ≡ made_port the_kind caller → call_on the_kind the_work caller ≡ done_on the_kind the_work caller port
call_made the_kind the_work caller port made = call_is the_kind the_work caller ∙ on_made the_kind caller port (done_on the_kind the_work caller) made
