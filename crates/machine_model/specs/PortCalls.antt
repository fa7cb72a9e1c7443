-- The calls on sampling and queuing ports: numbers 16 to 23.
use Rattle.machine_model.specs.Caller.{Caller, Served}
use Rattle.machine_model.specs.Calls.{CreateQueuingPort, CreateSamplingPort, GetQueuingPortStatus, GetSamplingPortStatus, ReadSamplingMessage, ReceiveQueuingMessage, SendQueuingMessage, WriteSamplingMessage, effect_of_call}
use Rattle.machine_model.specs.Effects.{performed}

-- call 16, XM_create_sampling_port(a, b, c): the name at a, messages of b bytes, the way c
unfoldable pub create_sampling_port : Caller → Served
create_sampling_port caller = performed (effect_of_call CreateSamplingPort caller) caller

-- call 17, XM_write_sampling_message(a, b, c): c bytes at b
unfoldable pub write_sampling_message : Caller → Served
write_sampling_message caller = performed (effect_of_call WriteSamplingMessage caller) caller

-- call 18, XM_read_sampling_message(a, b, c, d): into c bytes at b, and the validity at d
unfoldable pub read_sampling_message : Caller → Served
read_sampling_message caller = performed (effect_of_call ReadSamplingMessage caller) caller

-- call 19, XM_get_sampling_port_status(a, b)
unfoldable pub get_sampling_port_status : Caller → Served
get_sampling_port_status caller = performed (effect_of_call GetSamplingPortStatus caller) caller

-- call 20, XM_create_queuing_port(a, b, c, d): the name at a, b messages of c bytes, the way d
unfoldable pub create_queuing_port : Caller → Served
create_queuing_port caller = performed (effect_of_call CreateQueuingPort caller) caller

-- call 21, XM_send_queuing_message(a, b, c): c bytes at b
unfoldable pub send_queuing_message : Caller → Served
send_queuing_message caller = performed (effect_of_call SendQueuingMessage caller) caller

-- call 22, XM_receive_queuing_message(a, b, c): into c bytes at b
unfoldable pub receive_queuing_message : Caller → Served
receive_queuing_message caller = performed (effect_of_call ReceiveQueuingMessage caller) caller

-- call 23, XM_get_queuing_port_status(a, b)
unfoldable pub get_queuing_port_status : Caller → Served
get_queuing_port_status caller = performed (effect_of_call GetQueuingPortStatus caller) caller
