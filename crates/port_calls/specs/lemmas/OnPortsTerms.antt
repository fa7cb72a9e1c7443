-- For proofs and private clauses: the calls on made ports, by the kind of the port and by what they do with it.
use Rattle.std.specs.Prelude.{ℕ, Bool, false, List, [], ◌∷◌, ◌++◌}
use Rattle.xm_conf.specs.declared.port.Kind.{Kind}
use Rattle.xm_conf.specs.declared.port.Kind.TheVariants as kind
use Rattle.xm_ports.specs.Channels.{first_message, sample_of}
use Rattle.machine_model.specs.Caller.{Caller, Served, Test, answering, b_of, not_available, refused_if, room, tested, with_written}
use Rattle.machine_model.specs.PortEffects.{MadePort, destination_only, first_read, held_read, is_full}
use Rattle.machine_model.specs.lemmas.PortCallsTerms.{putting}
use Rattle.machine_model.specs.Structures.{queuing_status, sampling_status}
use Rattle.port_calls.specs.lemmas.Messages.{put_tests}
use Rattle.port_calls.specs.declared.on_ports.PortWork.{PortWork}
use Rattle.port_calls.specs.declared.on_ports.PortWork.TheVariants as work

-- whether a port has no room for a further message; a sampling port always has
abbrev pub is_filled : Kind → MadePort → Bool
is_filled kind.Sampling port = false
is_filled kind.Queuing port = is_full port

-- the tests on a message that is to be put into the channel of a port of a kind
abbrev pub tests_on : Kind → Caller → MadePort → List Test
tests_on kind.Sampling caller port = put_tests caller port
tests_on kind.Queuing caller port = put_tests caller port ++ refused_if (is_full port) not_available ∷ []

-- what a port of a kind holds is read
abbrev pub held_in : Kind → Caller → MadePort → Served
held_in kind.Sampling caller port = held_read (sample_of port.content) caller port
held_in kind.Queuing caller port = first_read (first_message port.content) caller port

-- the status of a port of a kind, and how many bytes it has
abbrev pub status_in : Kind → ℕ → MadePort → List ℕ
status_in kind.Sampling time port = sampling_status port.shape.kind time port.content
status_in kind.Queuing time port = queuing_status port.shape.kind port.content

abbrev pub status_bytes : Kind → ℕ
status_bytes kind.Sampling = 16
status_bytes kind.Queuing = 8

-- the outcome of a call on the port that it names, where that is made
abbrev pub done_on : Kind → PortWork → Caller → MadePort → Served
done_on the_kind work.Send caller port = tested (tests_on the_kind caller port) caller (putting caller port)
done_on the_kind work.Receive caller port = tested (destination_only port ∷ []) caller (held_in the_kind caller port)
done_on the_kind work.Status caller port =
    tested (room caller (b_of caller) (status_bytes the_kind) ∷ []) caller
    (answering 0 (with_written (b_of caller) (status_in the_kind caller.time port) caller.state))
