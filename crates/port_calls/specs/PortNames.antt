-- The calls that make a port, and the name that they give it, in bytes that the caller may read.
use Rattle.machine_model.specs.Caller.{Caller, Served}
use Rattle.machine_model.specs.PortCalls.{create_queuing_port, create_sampling_port}
use Rattle.xm_conf.specs.declared.port.Kind.{Kind}
use Rattle.xm_conf.specs.declared.port.Kind.TheVariants as kind

-- the call that makes a port of a kind
abbrev pub creation_on : Kind → Caller → Served
creation_on kind.Sampling = create_sampling_port
creation_on kind.Queuing = create_queuing_port
