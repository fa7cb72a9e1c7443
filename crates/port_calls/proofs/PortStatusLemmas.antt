-- The status of a made port is written.
use Rattle.std.proofs.Common.{◌≡◌, ℕ, List, [], ◌∷◌, ap, sym, ◌∙◌}
use Rattle.machine_model.specs.Caller.{Caller, Served, Test, answering, b_of, room, tested, with_written}
use Rattle.machine_model.specs.PortEffects.{MadePort}
use Rattle.xm_conf.specs.declared.port.Kind.{Kind}
use Rattle.port_calls.specs.lemmas.OnPortsTerms.{done_on, status_bytes, status_in}
use Rattle.port_calls.specs.declared.on_ports.PortWork.TheVariants as work

-- bytes that are the status of a port are written to b, where the test of the room lets them
pub status_given : (the_kind : Kind) (caller : Caller) (port : MadePort) (size at : ℕ) (test : Test) → at ≡ b_of caller → size ≡ status_bytes the_kind → test ≡ room caller at size
    → done_on the_kind work.Status caller port ≡ tested (test ∷ []) caller (answering 0 (with_written (b_of caller) (status_in the_kind caller.time port) caller.state))
status_given the_kind caller port size at test at_is size_is test_is =
    let served_so : Served = answering 0 (with_written (b_of caller) (status_in the_kind caller.time port) caller.state) in
    ap (λ (one : Test). tested (one ∷ []) caller served_so) (sym (test_is ∙ ap (λ (place : ℕ). room caller place size) at_is ∙ ap (room caller (b_of caller)) size_is))

-- such bytes at such a place
pub status_written : (the_kind : Kind) (caller : Caller) (port : MadePort) (at : ℕ) (bytes : List ℕ) → at ≡ b_of caller → bytes ≡ status_in the_kind caller.time port
    → answering 0 (with_written (b_of caller) (status_in the_kind caller.time port) caller.state) ≡ answering 0 (with_written at bytes caller.state)
status_written the_kind caller port at bytes at_is bytes_is =
    ap (λ (place : ℕ). answering 0 (with_written place (status_in the_kind caller.time port) caller.state)) (sym at_is)
    ∙ ap (λ (written : List ℕ). answering 0 (with_written at written caller.state)) (sym bytes_is)
